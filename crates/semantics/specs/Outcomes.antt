-- Document 01's "Twelve marked outcomes".
use Rattle.std.specs.Prelude.{Bool, true, false, ◌&&◌, ◌||◌, List, [], ◌∷◌, ◌++◌, ℕ, eqb, pos, negsuc, replicate, Some}
use Rattle.std.proofs.Math.Option.{Option, none, some}
use Rattle.value.specs.declared.variant.Variant.TheVariants as variant
use Rattle.value.specs.declared.variant.VariantBytes.TheVariants as kind
use Rattle.metadata.specs.Names.{Name, same}
use Rattle.semantics.specs.declared.Container.{Container}
use Rattle.semantics.specs.Record.{storage_of, State, table_size, Scalars, fixed, bytes, Call, append, open_in, close, roll_back, finish}
use Rattle.semantics.specs.Tree.{encode}
use Rattle.semantics.specs.History.{Kept}
use Rattle.semantics.specs.Step.{step}
use Rattle.semantics.specs.Ledger.{Account, total, refusal_of}
use Rattle.semantics.specs.Run.{fresh_counts, run, refused, value_bytes, dictionary_bytes, run_names, kept, no_account, account_after, lent_by}

-- the calls without the finish, the value and the dictionary, and whether it is said with "uniqueness off"
pub record Case : Type 0 where
  pub calls : List Call
  pub value : List ℕ
  pub dictionary : List ℕ
  pub off : Bool

abbrev pub null : Scalars
null = fixed variant.Null

abbrev pub int8 : ℕ → Scalars
int8 n = fixed (variant.Int8 (pos n))

abbrev pub list : Option Name → Call
list nm = open_in nm false

abbrev pub object : Option Name → Call
object nm = open_in nm true

-- a field of int8 n under a one-byte name
abbrev pub field : ℕ → ℕ → Call
field name n = append (some (name ∷ [])) (int8 n)

-- "Value; dictionary (default 01 00 00)"
abbrev pub outcome : List Call → List ℕ → List ℕ → Case
outcome calls value dictionary = record { calls = calls; value = value; dictionary = dictionary; off = false }

abbrev pub plainly : List Call → List ℕ → Case
plainly calls value = outcome calls value (0x01 ∷ 0x00 ∷ 0x00 ∷ [])

abbrev pub outcome_off : List Call → List ℕ → List ℕ → Case
outcome_off calls value dictionary = record { calls = calls; value = value; dictionary = dictionary; off = true }

unfoldable pub outcomes : List Case
outcomes =
    -- 1 null
    plainly (append none null ∷ []) (0x00 ∷ [])
    -- 2 int8 5
    ∷ (plainly (append none (int8 5) ∷ []) (0x0c ∷ 0x05 ∷ [])
    -- 3 int16 −2
    ∷ (plainly (append none (fixed (variant.Int16 (negsuc 1))) ∷ []) (0x10 ∷ 0xfe ∷ 0xff ∷ [])
    -- 4 plain "hi"
    ∷ (plainly (append none (bytes kind.Text (0x68 ∷ 0x69 ∷ [])) ∷ []) (0x09 ∷ 0x68 ∷ 0x69 ∷ [])
    -- 5 empty list
    ∷ (plainly (list none ∷ close ∷ []) (0x03 ∷ 0x00 ∷ 0x00 ∷ [])
    -- 6 empty object
    ∷ (plainly (object none ∷ close ∷ []) (0x02 ∷ 0x00 ∷ 0x00 ∷ [])
    -- 7 list holding an empty list
    ∷ (plainly (list none ∷ list none ∷ close ∷ close ∷ []) (0x03 ∷ 0x01 ∷ 0x00 ∷ 0x03 ∷ 0x03 ∷ 0x00 ∷ 0x00 ∷ [])
    -- 8 object b = int8 1, a = int8 2
    ∷ (outcome (object none ∷ field 0x62 1 ∷ field 0x61 2 ∷ close ∷ [])
    (0x02 ∷ 0x02 ∷ 0x01 ∷ 0x00 ∷ 0x02 ∷ 0x00 ∷ 0x04 ∷ 0x0c ∷ 0x01 ∷ 0x0c ∷ 0x02 ∷ [])
    (0x01 ∷ 0x02 ∷ 0x00 ∷ 0x01 ∷ 0x02 ∷ 0x62 ∷ 0x61 ∷ [])
    -- 9 uniqueness off, a = 1, a = 2
    ∷ (outcome_off (object none ∷ field 0x61 1 ∷ field 0x61 2 ∷ close ∷ [])
    (0x02 ∷ 0x01 ∷ 0x00 ∷ 0x02 ∷ 0x04 ∷ 0x0c ∷ 0x01 ∷ 0x0c ∷ 0x02 ∷ [])
    (0x11 ∷ 0x01 ∷ 0x00 ∷ 0x01 ∷ 0x61 ∷ [])
    -- 10 uniqueness off, a = 1, list opened under a and rolled back
    ∷ (outcome_off (object none ∷ field 0x61 1 ∷ list (some (0x61 ∷ [])) ∷ roll_back ∷ close ∷ [])
    (0x02 ∷ 0x01 ∷ 0x00 ∷ 0x00 ∷ 0x02 ∷ 0x0c ∷ 0x01 ∷ [])
    (0x11 ∷ 0x01 ∷ 0x00 ∷ 0x01 ∷ 0x61 ∷ [])
    -- 11 object, b = 1, all rolled back, null; document 02, A3: "Outcome 11 becomes dictionary `010000`"
    ∷ (outcome (object none ∷ field 0x62 1 ∷ roll_back ∷ append none null ∷ []) (0x00 ∷ []) (0x01 ∷ 0x00 ∷ 0x00 ∷ [])
    -- 12 object b = int8 1, a list under a rolled back, c = int8 2; A3: "outcome 12 `11020001026263`"
    ∷ (outcome (object none ∷ field 0x62 1 ∷ list (some (0x61 ∷ [])) ∷ roll_back ∷ field 0x63 2 ∷ close ∷ [])
    (0x02 ∷ 0x02 ∷ 0x00 ∷ 0x01 ∷ 0x00 ∷ 0x02 ∷ 0x04 ∷ 0x0c ∷ 0x01 ∷ 0x0c ∷ 0x02 ∷ [])
    (0x11 ∷ 0x02 ∷ 0x00 ∷ 0x01 ∷ 0x02 ∷ 0x62 ∷ 0x63 ∷ [])
    ∷ [])))))))))))

-- a fresh builder of a uniqueness mark, at floor 1 (document 02, A10: "The outcomes .. stand at floor 1"), and storage that are not blank, and
-- have room for the largest outcome and no more
abbrev pub junk_container : Container
junk_container = record { value = 9; names = 8; text = 7; entries = 6; undo = 3; parent = Some (record { id = 5; offset = 4 }); object = true; unique = true; marks = 2 }

abbrev pub start : Bool → State
start u =
    record {
      builder =
          record {
            containers = replicate 64 junk_container;
            elements = replicate 64 99;
            counts = fresh_counts u 1;
          };
      marks = replicate table_size 99;
      storage = storage_of (replicate 11 0xee) (replicate 2 0xee) (replicate 2 99) (replicate 5 99) (replicate 1 99);
    }

-- the bytes of a kept record's top value
unfoldable pub encoded : Kept → List ℕ
encoded k = elim k.top [ none ↦ [] | some t ↦ encode 1 k.names t ]

unfoldable pub same_names : List Name → List Name → Bool
same_names [] [] = true
same_names [] (n ∷ ns) = false
same_names (m ∷ ms) [] = false
same_names (m ∷ ms) (n ∷ ns) = same m n && same_names ms ns

-- each call's number is that which follows from the accepted calls alone, and the used value bytes are the ledger's
unfoldable pub accounted : Account → State → List Call → Bool
accounted a s [] = eqb s.builder.counts.value (total a.tallies)
accounted a s (c ∷ cs) =
    let later = accounted (account_after a c (refused s c)) (step s c).state cs in
    (eqb (step s c).number (refusal_of a (lent_by s.storage) c) && eqb s.builder.counts.value (total a.tallies)) && later

-- from a builder of that uniqueness mark, the calls and a finish give the value and the dictionary, and the kept record is that value's and holds that dictionary's
-- names; and the numbers and the used bytes are accounted for
unfoldable pub gives : Bool → Case → Bool
gives u o =
    let cs = o.calls ++ (finish (replicate 7 0xee) ∷ []) in
    let s = start u in
    let k = kept s cs in
    (same (value_bytes (run s cs)) o.value && same (dictionary_bytes s cs) o.dictionary)
    && ((same (encoded k) o.value && same_names (run_names s cs) k.names) && accounted (no_account u 1) s cs)

-- under both marks, save where "uniqueness off" is said
unfoldable pub all_give : List Case → Bool
all_give [] = true
all_give (o ∷ os) = (gives false o && (o.off || gives true o)) && all_give os
