-- The twelve marked outcomes, together, by computation over `step`.
use mathlib.Core.Path.{◌≡◌, refl}
use mathlib.Core.Bool.{true}
use Rattle.encoding.specs.Width.{width, width_at}
use Rattle.encoding.specs.Packed.{le, les, number}
use Rattle.encoding.specs.Signed.{twos, whole}
use Rattle.encoding.specs.Utf8.{table, follow, rest, utf8}
use Rattle.encoding.specs.Rows.{first}
use Rattle.encoding.specs.Slices.{write, shift}
use Rattle.value.specs.Scalar.{scalar_bytes}
use Rattle.metadata.specs.Names.{cuts, names_of, risen, intact, same, place, below, ascending, sorted}
use Rattle.metadata.specs.Bytes.{joined, ends_from, laid_out, dictionary, numbers, names_in, dictionary_names}
use Rattle.container.specs.Layout.{list_header_at, list_header, object_header_at, largest, object_header}
use Rattle.container.specs.Entries.{entries_of, put_entries, seek, misplaced}
use Rattle.container.specs.Sort.{insert, sort}
use Rattle.container.specs.Close.{fronted}
use Rattle.measure.specs.Measure.{container_length, value_length, measured, whole_values, starts_in}
use Rattle.semantics.specs.Record.{rising, chained, mark_at, marks_of, falling, marks_hold}
use Rattle.semantics.specs.Damage.{over_used, unchained, bad_floor, fallen_ends, misplaced_inner, misplaced_parent, uncounted, damaged_parent}
use Rattle.semantics.specs.Table.{header, number_of}
use Rattle.semantics.specs.Step.{registered, appended, opened, new_container, entries_closed, closed, rolled_back, finished, dictionary_of, after, step}
use Rattle.semantics.specs.Step as steps
use Rattle.semantics.specs.Tree.{data_of, starts_from, with_field, fields_from, list_bytes, object_bytes, encode, parts_of}
use Rattle.semantics.specs.History.{with_name, unlive, replace, snoc, entered, enter, close_level, drop_level, accepted, fed}
use Rattle.semantics.specs.Ledger as ledger
use Rattle.semantics.specs.Ledger.{item_count, live_ids, is_live, no_ledger, add_to, total, header_size, set_unique, own_undo, ledger_after, entries_used, undos_used, refusal_of}
use Rattle.semantics.specs.Run.{run, account_after, refused, value_bytes, dictionary_bytes, run_names, history_from, history_of, kept}
use Rattle.semantics.specs.Outcomes.{outcomes, encoded, same_names, accounted, gives, all_give}

pub outcomes_hold : all_give outcomes ≡ true
unfolding width width_at le les number twos whole table follow rest utf8 write shift scalar_bytes cuts names_of risen intact same place below joined ends_from laid_out dictionary ascending sorted list_header_at list_header object_header_at largest object_header entries_of put_entries seek misplaced insert sort fronted over_used rising chained mark_at marks_of falling marks_hold unchained bad_floor fallen_ends misplaced_inner misplaced_parent uncounted damaged_parent container_length value_length measured whole_values starts_in header first number_of registered appended opened new_container entries_closed closed rolled_back finished dictionary_of after step steps.with_unique run value_bytes dictionary_bytes numbers names_in dictionary_names run_names refused history_from history_of kept with_name unlive replace snoc entered enter close_level drop_level accepted fed data_of starts_from with_field fields_from list_bytes object_bytes encode parts_of item_count live_ids is_live no_ledger add_to total header_size ledger.tallies_entered set_unique own_undo ledger_after entries_used undos_used refusal_of account_after accounted outcomes encoded same_names gives all_give
outcomes_hold = refl
