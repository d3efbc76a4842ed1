-- The state words: 777 numbers, and the builder that they mean. Any words mean one: a flag is "not 0".
use Rattle.std.specs.Prelude.{◌≡◌, Bool, cond, not, List, [], ◌∷◌, ℕ, zero, suc, ◌+◌, ◌-◌, ◌*◌, eqb, ltb, get_or, set, IfOk, IfErr, Result, Option as Optional, Some, None}
use Rattle.encoding.specs.Rows.{first}
use Rattle.metadata.specs.Calls.{from_parts}
use Rattle.container.specs.declared.Entry.{Entry}
use Rattle.semantics.specs.declared.Builder.{Builder}
use Rattle.semantics.specs.declared.Container.{Container}
use Rattle.semantics.specs.declared.Counts.{Counts}
use Rattle.semantics.specs.Record.{Storage, State, Call, register, append, open_in, close, roll_back, uniqueness, set_mark, return_to, finish, container_at, in_list, view_of}
use Rattle.semantics.specs.Table.{make_rows}
use Rattle.semantics.specs.Step.{mark_to, step}
use Rattle.semantics.specs.Run.{fresh_counts}
use Rattle.std.proofs.Math.Option.{Option}
use Rattle.metadata.specs.Names.{Name, field_names, text_size}
use Rattle.refusals.specs.Decide.{enter_rows}
use Rattle.actions.specs.declared.enter.Entered.{Entered}
use Rattle.actions.specs.Actions.{EntersBy, elements_left, elements_put, one_more}
use Rattle.semantics.specs.declared.refusal.Refusal.{Refusal}
use Rattle.semantics.specs.Refusal.{number_told}
use Rattle.actions.specs.declared.Moved.{Moved}

-- the word at place i
abbrev pub word_at : List ℕ → ℕ → ℕ
word_at ws i = get_or ws i 0

abbrev pub flag : ℕ → Bool
flag x = not (eqb x 0)

-- words 0 to 8
unfoldable pub counts_of : List ℕ → Counts
counts_of ws =
    record {
      value = word_at ws 0;
      entries = word_at ws 1;
      depth = word_at ws 2;
      dictionary = from_parts (word_at ws 3) (word_at ws 4);
      unique = flag (word_at ws 5);
      finished = flag (word_at ws 6);
      floor = word_at ws 7;
      undo = word_at ws 8;
    }

-- a parent's entry: a tag (0 is "new"), an id and an offset, which count where the tag is not 0
unfoldable pub parent_entry_of : ℕ → ℕ → ℕ → Optional Entry
parent_entry_of tag id offset = cond (eqb tag 0) None (Some (record { id = id; offset = offset }))

-- the container whose eleven words start at place p
unfoldable pub container_from : List ℕ → ℕ → Container
container_from ws p =
    record {
      value = word_at ws p;
      names = word_at ws (p + 1);
      text = word_at ws (p + 2);
      entries = word_at ws (p + 3);
      parent = parent_entry_of (word_at ws (p + 4)) (word_at ws (p + 5)) (word_at ws (p + 6));
      object = flag (word_at ws (p + 7));
      unique = flag (word_at ws (p + 8));
      undo = word_at ws (p + 9);
      marks = word_at ws (p + 10);
    }

-- the words of the container at depth i, counted from 0, start here
abbrev pub container_word : ℕ → ℕ
container_word i = 9 + 11 * i

abbrev pub container_of : List ℕ → ℕ → Container
container_of ws i = container_from ws (container_word i)

-- n of a row, from i on
unfoldable pub row_from : {A : Type 0} → (ℕ → A) → ℕ → ℕ → List A
row_from f zero i = []
row_from f (suc n) i = f i ∷ row_from f n (suc i)

unfoldable pub containers_of : List ℕ → List Container
containers_of ws = row_from (container_of ws) 64 0

-- the elements of the container at depth i: words 713 to 776
abbrev pub elements_word : ℕ → ℕ
elements_word i = 713 + i

unfoldable pub elements_of : List ℕ → List ℕ
elements_of ws = row_from (λ i. word_at ws (elements_word i)) 64 0

-- the builder that the words mean
abbrev pub builder_of : List ℕ → Builder
builder_of ws = record { containers = containers_of ws; elements = elements_of ws; counts = counts_of ws }

-- with the table of marks ms, which is lent beside them
abbrev pub state_of : List ℕ → List ℕ → Storage → State
state_of ws ms l = record { builder = builder_of ws; marks = ms; storage = l }

-- ---- the words as they are written

-- a flag's word
abbrev pub word_of : Bool → ℕ
word_of b = cond b 1 0

-- the three words of a parent's entry
abbrev pub tag_of : Optional Entry → ℕ
tag_of None = 0
tag_of (Some former) = 1

abbrev pub id_of : Optional Entry → ℕ
id_of None = 0
id_of (Some former) = former.id

abbrev pub offset_of : Optional Entry → ℕ
offset_of None = 0
offset_of (Some former) = former.offset

-- numbers put one behind the other, the first of them n places behind p
unfoldable pub put_from : List ℕ → ℕ → ℕ → List ℕ → List ℕ
put_from ws p n [] = ws
put_from ws p n (x ∷ xs) = put_from (set ws (p + n) x) p (suc n) xs

-- words 0 to 8
abbrev pub counts_words : Counts → List ℕ
counts_words c =
    c.value
    ∷ c.entries
    ∷ c.depth
    ∷ field_names c.dictionary
    ∷ text_size c.dictionary
    ∷ word_of c.unique
    ∷ word_of c.finished
    ∷ c.floor
    ∷ c.undo
    ∷ []

abbrev pub counts_put : List ℕ → Counts → List ℕ
counts_put ws c = put_from ws 0 0 (counts_words c)

-- eleven words from place p on
abbrev pub container_words : Container → List ℕ
container_words k =
    k.value
    ∷ k.names
    ∷ k.text
    ∷ k.entries
    ∷ tag_of k.parent
    ∷ id_of k.parent
    ∷ offset_of k.parent
    ∷ word_of k.object
    ∷ word_of k.unique
    ∷ k.undo
    ∷ k.marks
    ∷ []

abbrev pub container_put : List ℕ → ℕ → Container → List ℕ
container_put ws p k = put_from ws p 0 (container_words k)

-- the elements of the innermost of d containers
abbrev pub elements_written : List ℕ → ℕ → ℕ → List ℕ
elements_written ws d n = cond (ltb 0 d) (set ws (elements_word (d - 1)) n) ws

-- the container at depth d put, as it stands in a builder
abbrev pub container_left : List ℕ → ℕ → Builder → List ℕ
container_left ws d b = container_put ws (container_word d) (container_at b.containers d)

-- the counts put, and the elements of the container that is innermost then
abbrev pub inner_left : List ℕ → List ℕ → Call → Builder → List ℕ
inner_left ws ms c b =
    let v = view_of (builder_of ws) ms in
    elements_written (counts_put ws b.counts) b.counts.depth (elements_left v (mark_to v ms c) c)

-- the words that a call leaves which is carried out, and b then: the counts', those of the container that it opens, marks or returns in, and the
-- elements of the container that is innermost then, of an open also of the one that was. All other words are as they were.
abbrev pub words_left : List ℕ → List ℕ → Call → Builder → List ℕ
words_left ws ms (register n) b = inner_left ws ms (register n) b
words_left ws ms (append nm x) b = inner_left ws ms (append nm x) b
words_left ws ms (open_in nm k) b =
    let v = view_of (builder_of ws) ms in
    let d = (counts_of ws).depth in
    elements_written (container_left (elements_written (counts_put ws b.counts) d (one_more (in_list v) v.elements)) d b) (d + 1) 0
words_left ws ms close b = inner_left ws ms close b
words_left ws ms roll_back b = inner_left ws ms roll_back b
words_left ws ms (uniqueness u) b = container_left ws ((counts_of ws).depth - 1) b
words_left ws ms set_mark b = container_left ws ((counts_of ws).depth - 1) b
words_left ws ms (return_to j) b = container_left (inner_left ws ms (return_to j) b) ((counts_of ws).depth - 1) b
words_left ws ms (finish out) b = counts_put ws b.counts

-- ---- what a word call answers and leaves behind

-- of the words before, the table ms and the storage l: its answer n, the words after, what they mean, and the table and the storage at exit are
-- those of the step; a refused call leaves the words themselves
pub record DoesWords (n : ℕ) (before after ms left : List ℕ) (l exit : Storage) (c : Call) : Type 0 where
  pub number : n ≡ (step (state_of before ms l) c).number
  pub builder : builder_of after ≡ (step (state_of before ms l) c).state.builder
  pub marks : left ≡ (step (state_of before ms l) c).state.marks
  pub storage : exit ≡ (step (state_of before ms l) c).state.storage
  pub words : after ≡ cond (eqb n 0) (words_left before ms c (step (state_of before ms l) c).state.builder) before

-- finish: its output at exit too, and the bytes written, which a refused one leaves as they were
pub record FinishesWords (n : ℕ) (before after ms : List ℕ) (l : Storage) (lent out : List ℕ) (writtenBefore written : ℕ) : Type 0 where
  pub does : DoesWords n before after ms ms l l (finish lent)
  pub output : out ≡ (step (state_of before ms l) (finish lent)).output
  pub length : written ≡ cond (eqb n 0) (step (state_of before ms l) (finish lent)).written writtenBefore

-- the counts put, and what the words mean then
pub record PutsCounts (before after : List ℕ) (c : Counts) : Type 0 where
  pub words : after ≡ counts_put before c
  pub builder : builder_of after ≡ record { containers = containers_of before; elements = elements_of before; counts = c }

-- a builder made with a floor: its one row's number, and the counts put where that is 0; else the words are as they were
pub record MakesWords (n : ℕ) (before after : List ℕ) (u : Bool) (floor : ℕ) : Type 0 where
  pub number : n ≡ first (make_rows floor)
  pub made : n ≡ 0 → PutsCounts before after (fresh_counts u floor)
  pub kept : (n ≡ 0 → ⊥) → after ≡ before

-- ---- For the code.

-- a container put
pub record PutsContainer (before after : List ℕ) (d : ℕ) (k : Container) : Type 0 where
  pub words : after ≡ container_put before (container_word d) k
  pub builder : builder_of after ≡ record { containers = set (containers_of before) d k; elements = elements_of before; counts = counts_of before }

-- the elements of the innermost of d containers put
pub record PutsElements (before after : List ℕ) (d n : ℕ) : Type 0 where
  pub words : after ≡ elements_written before d n
  pub builder : builder_of after ≡ record { containers = containers_of before; elements = elements_put (elements_of before) d n; counts = counts_of before }

-- the counts and then these
pub record PutsInner (before after : List ℕ) (c : Counts) (d n : ℕ) : Type 0 where
  pub words : after ≡ elements_written (counts_put before c) d n
  pub builder : builder_of after ≡ record { containers = containers_of before; elements = elements_put (elements_of before) d n; counts = c }

-- a piece's number, and its counts and elements put back where it is carried out
pub record Puts (r : Result Moved Refusal) (n : ℕ) (before after : List ℕ) : Type 0 where
  pub number : n ≡ number_told r
  pub put : IfOk r (λ m. PutsInner before after m.counts m.counts.depth m.elements)
  pub kept : IfErr r (λ e. after ≡ before)

-- what a register, an append or an open enters, and the words then
pub record EntersWords (before after ms : List ℕ) (l : Storage) (nm : Option Name) (into opens : Bool) (own size : ℕ) (r : Result Entered Refusal) (text ends : List ℕ) : Type 0 where
  pub enters : EntersBy (view_of (builder_of before) ms) l nm into opens size (first (enter_rows (view_of (builder_of before) ms) l nm into opens own size)) r text ends
  pub put : IfOk r (λ e. PutsInner before after e.counts (counts_of before).depth e.elements)
  pub kept : IfErr r (λ e. after ≡ before)
