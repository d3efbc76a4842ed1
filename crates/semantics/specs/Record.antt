-- The builder's record over its lent storage, and the calls.
use Rattle.std.specs.Prelude.{Bool, true, false, cond, not, ◌&&◌, ◌||◌, List, [], ◌∷◌, ◌++◌, ℕ, zero, suc, ◌+◌, ◌-◌, ◌*◌, eqb, leb, ltb, get_or, replicate, take, None}
use Rattle.std.proofs.Math.Option.{Option}
use Rattle.value.specs.declared.variant.Variant.{Variant}
use Rattle.value.specs.declared.variant.VariantBytes.{VariantBytes}
use Rattle.value.specs.Scalar.{Scalar, stored_variant, stored_bytes, stored_uuid}
use Rattle.calendar.specs.declared.civil.Civil.{Civil}
use Rattle.calendar.specs.Answers.{civil_variant}
use Rattle.packed_decimal.specs.PackedDecimal.{packed_variant}
use Rattle.metadata.specs.Names.{Name, field_names, names_of, text_size}
use Rattle.container.specs.Entries.{entries_of}
use Rattle.container.specs.declared.Entry.{Entry}
use Rattle.measure.specs.Measure.{data_in}
use Rattle.semantics.specs.declared.Builder.{Builder}
use Rattle.semantics.specs.declared.Container.{Container}
use Rattle.semantics.specs.declared.Counts.{Counts}
use Rattle.semantics.specs.declared.Mark.{Mark}
use Rattle.semantics.specs.declared.View.{View}

-- the lent storage: value bytes, name bytes, the name table (each name's end), entry storage (two numbers an entry), undo storage (two numbers
-- a record)
pub record Storage : Type 0 where
  pub value : List ℕ
  pub text : List ℕ
  pub ends : List ℕ
  pub entries : List ℕ
  pub undo : List ℕ

-- the five lent slices
abbrev pub storage_of : List ℕ → List ℕ → List ℕ → List ℕ → List ℕ → Storage
storage_of value text ends entries undo = record { value = value; text = text; ends = ends; entries = entries; undo = undo }

-- the builder's record; its table of marks, of fixed size: seven numbers for each of 16 marks of each of 64 containers; and the storage
pub record State : Type 0 where
  pub builder : Builder
  pub marks : List ℕ
  pub storage : Storage

abbrev pub table_size : ℕ
table_size = 7168

-- ---- the calls, with their arguments as the caller gave them

-- what is appended; document 02, A2: "appending of a date, and of the two microsecond timestamps, from a Gregorian date and a time of day"; A4:
-- "packed decimal", "The writer takes those bytes and a scale"
pub data Scalars : Type 0 where
  fixed : Variant → Scalars
  civil : Civil → Scalars
  packed : ℕ → List ℕ → Scalars
  bytes : VariantBytes → List ℕ → Scalars
  uuid : List ℕ → Scalars

-- document 01, "register a name; append a scalar, open a list, open an object (each with or without a field name); close,
-- roll back the innermost open container; set that object's uniqueness mark; finish", the last with its output; document 02, A9, "A caller may
-- set up to 16 marks in the innermost open container, numbered from 1 as set, and return to one"
pub data Call : Type 0 where
  register : Name → Call
  append : Option Name → Scalars → Call
  open_in : Option Name → Bool → Call
  close : Call
  roll_back : Call
  uniqueness : Bool → Call
  set_mark : Call
  return_to : ℕ → Call
  finish : List ℕ → Call

-- "a UUID as 16 bytes by value": a list of another length is no such value, and counts as cut or filled to 16
abbrev pub sixteen : List ℕ → List ℕ
sixteen bs = take 16 (bs ++ replicate 16 0)

-- the scalar as stored type and payload
abbrev pub scalar_of : Scalars → Scalar
scalar_of (fixed v) = stored_variant v
scalar_of (civil x) = stored_variant (civil_variant x)
scalar_of (packed scale bs) = stored_variant (packed_variant bs scale)
scalar_of (bytes k bs) = stored_bytes k bs
scalar_of (uuid bs) = stored_uuid (sixteen bs)

-- ---- the open containers

-- what stands where none is open
abbrev pub no_container : Container
no_container = record { value = 0; names = 0; text = 0; entries = 0; undo = 0; parent = None; object = false; unique = false; marks = 0 }

-- the container at depth d, counted from 0
abbrev pub container_at : List Container → ℕ → Container
container_at ks d = get_or ks d no_container

-- the innermost of d open containers, and its parent
abbrev pub innermost : List Container → ℕ → Container
innermost ks d = cond (ltb 0 d) (container_at ks (d - 1)) no_container

abbrev pub parent_of : List Container → ℕ → Container
parent_of ks d = cond (ltb 1 d) (container_at ks (d - 2)) no_container

-- document 02, A8, "a list's count": how many elements the container at depth d has, if it is a list, a child open in it among them
abbrev pub elements_at : List ℕ → ℕ → ℕ
elements_at ns d = get_or ns d 0

-- those of the innermost of d open containers, and of its parent
abbrev pub inner_elements : List ℕ → ℕ → ℕ
inner_elements ns d = cond (ltb 0 d) (elements_at ns (d - 1)) 0

abbrev pub parent_elements : List ℕ → ℕ → ℕ
parent_elements ns d = cond (ltb 1 d) (elements_at ns (d - 2)) 0

-- a container's starting marks lie at or below those of another
abbrev pub under : Container → Container → Bool
under k l =
    leb k.value l.value
    && (leb k.names l.names && (leb k.text l.text && (leb k.entries l.entries && leb k.undo l.undo)))

-- A8, "a count above the list's data bytes, plus one for a child open in it, is 1 at every call": a list does not count more elements than the
-- most that it can have; an object has no such count
abbrev pub countable : Container → ℕ → ℕ → Bool
countable k n most = k.object || leb n most

-- a container of n elements with another open in it
abbrev pub encloses : Container → ℕ → Container → Bool
encloses k n l = under k l && countable k n (l.value - k.value + 1)

-- no starting mark falls from one of the first d + 1 containers to the next, and no list of the first d, each with a child open in it, counts
-- too much
unfoldable pub rising : List Container → List ℕ → ℕ → Bool
rising ks ns zero = true
rising ks ns (suc d) = encloses (container_at ks d) (elements_at ns d) (container_at ks (suc d)) && rising ks ns d

-- at most 64 are open, no starting mark falls, and no list but the innermost counts too much
unfoldable pub chained : List Container → List ℕ → ℕ → Bool
chained ks ns d = leb d 64 && rising ks ns (d - 1)

-- ---- the marks: document 02, A9, "up to 16 marks in the innermost open container, numbered from 1 as set"

-- what stands where none is meant
abbrev pub no_mark : Mark
no_mark = record { value = 0; names = 0; text = 0; entries = 0; undo = 0; count = 0; unique = false }

-- where mark j of the container at depth d stands in the table
abbrev pub slot_of : ℕ → ℕ → ℕ
slot_of d j = 7 * (16 * d + (j - 1))

-- the mark that stands there
unfoldable pub mark_at : List ℕ → ℕ → Mark
mark_at ms at =
    record {
      value = get_or ms at 0;
      names = get_or ms (at + 1) 0;
      text = get_or ms (at + 2) 0;
      entries = get_or ms (at + 3) 0;
      undo = get_or ms (at + 4) 0;
      count = get_or ms (at + 5) 0;
      unique = not (eqb (get_or ms (at + 6) 0) 0);
    }

-- the first n marks of the container at depth d, the latest first
unfoldable pub marks_of : List ℕ → ℕ → ℕ → List Mark
marks_of ms d zero = []
marks_of ms d (suc n) = mark_at ms (slot_of d (suc n)) ∷ marks_of ms d n

-- what a mark would be at a container's opening, and what it would be now, n being the elements
abbrev pub mark_at_start : Container → Mark
mark_at_start k =
    record { value = k.value; names = k.names; text = k.text; entries = k.entries; undo = k.undo; count = 0; unique = k.unique }

abbrev pub mark_now : Counts → ℕ → Bool → Mark
mark_now c n unique =
    record {
      value = c.value;
      names = field_names c.dictionary;
      text = text_size c.dictionary;
      entries = c.entries;
      undo = c.undo;
      count = n;
      unique = unique;
    }

-- no number of a mark is above that of another; of an object the count is free
abbrev pub not_above : Bool → Mark → Mark → Bool
not_above object p q =
    leb p.value q.value
    && (leb p.names q.names
    && (leb p.text q.text && (leb p.entries q.entries && (leb p.undo q.undo && (object || leb p.count q.count)))))

-- from the latest mark to the first, and on to the start, none is above the one before it, and the latest is not above the present
unfoldable pub falling : Bool → Mark → List Mark → Mark → Bool
falling object start [] now = not_above object start now
falling object start (p ∷ ps) now = not_above object p now && falling object start ps p

-- number 1, A9: "over 16 marks in a container, or marks that fall, lie below its starting marks or exceed the used counts or its list's count":
-- not so of a container at depth d; where no mark is set there is nothing to ask
abbrev pub marks_fit : List ℕ → ℕ → Container → Mark → Bool
marks_fit ms d k now = eqb k.marks 0 || (leb k.marks 16 && falling k.object (mark_at_start k) (marks_of ms d k.marks) now)

-- nor of any of the first d containers
unfoldable pub marks_hold : List Container → List ℕ → List ℕ → Counts → ℕ → Bool
marks_hold ks ns ms c zero = true
marks_hold ks ns ms c (suc d) =
    let k = container_at ks d in
    marks_fit ms d k (mark_now c (elements_at ns d) k.unique) && marks_hold ks ns ms c d

-- ---- the floor

-- document 02, A10: "A fresh builder takes a floor of 1 to 4 bytes"
abbrev pub good_floor : ℕ → Bool
good_floor floor = leb 1 floor && leb floor 4

-- ---- what a call sees of the record and of the table of marks

abbrev pub view_of : Builder → List ℕ → View
view_of b ms =
    let d = b.counts.depth in
    record {
      counts = b.counts;
      inner = innermost b.containers d;
      elements = inner_elements b.elements d;
      parent = parent_of b.containers d;
      siblings = parent_elements b.elements d;
      chain = chained b.containers b.elements d && marks_hold b.containers b.elements ms b.counts d;
    }

abbrev pub view_at : State → View
view_at s = view_of s.builder s.marks

abbrev pub is_open : View → Bool
is_open v = ltb 0 v.counts.depth

-- the innermost is an object
abbrev pub in_object : View → Bool
in_object v = is_open v && v.inner.object

-- or a list
abbrev pub in_list : View → Bool
in_list v = is_open v && not v.inner.object

-- document 01, "its container's data (which runs to the next container's start, or for the innermost to the used end)"
abbrev pub inner_size : View → ℕ
inner_size v = v.counts.value - v.inner.value

abbrev pub inner_data : View → Storage → List ℕ
inner_data v l = data_in v.inner.value v.counts.value l.value

abbrev pub parent_size : View → ℕ
parent_size v = v.inner.value - v.parent.value

abbrev pub inner_entries : View → Storage → List Entry
inner_entries v l = entries_of l.entries v.inner.entries (v.counts.entries - v.inner.entries)

-- the parent's entries run to the child's starting mark
abbrev pub parent_entries : View → Storage → List Entry
parent_entries v l = entries_of l.entries v.parent.entries (v.inner.entries - v.parent.entries)

abbrev pub names_held : View → Storage → List Name
names_held v l = names_of v.counts.dictionary l.text l.ends

-- document 01, "The uniqueness mark is given to a fresh builder, inherited by children"
abbrev pub unique_now : View → Bool
unique_now v = cond (is_open v) v.inner.unique v.counts.unique
