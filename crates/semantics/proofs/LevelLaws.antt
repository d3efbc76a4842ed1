-- All open containers: the machine's beside the history's, the innermost first.
use mathlib.Core.Path.{◌≡◌, refl, sym, ◌∙◌, ap, subst}
use mathlib.Core.Bool.{Bool, true, false, cond, ◌&&◌}
use mathlib.Core.List.{List, [], ◌∷◌, ◌++◌, append_assoc, append-nil}
use mathlib.Core.Option.{Option, none, some}
use Prim.Native.Nat.{ℕ, ◌+◌, ◌-◌, ◌^◌, ◌≤◌, ◌<◌}
use native.Mathlib.Omega.{arith}
use lib.Dec.{ltb}
use lib.Seq.{take_at, drop_at}
use lib.ListN.{drop, take, length, length-append}
use Rattle.std.specs.Prelude.{Option as Optional, Some, None}
use Rattle.metadata.specs.Names.{Name}
use Rattle.metadata.specs.Bytes.{joined}
use Rattle.metadata.proofs.DictionaryLaws.{Distinct, place_held}
use Rattle.container.specs.declared.Entry.{Entry}
use Rattle.semantics.specs.declared.Container.{Container}
use Rattle.semantics.specs.declared.Mark.{Mark}
use Rattle.semantics.specs.Step.{with_unique, with_marks}
use Rattle.semantics.specs.Tree.{Tree, nest, encode}
use Rattle.semantics.specs.History.{Copy, Level, holding, with_name, enter, close_level}
use Rattle.semantics.specs.Ledger.{Tally, Tallied, add_to, inner_sum, outer_tallies, header_size, tally_mark, live_in, own_undo}
use Rattle.semantics.proofs.TreeLaws.{HeldItems, encode_grows}
use Rattle.semantics.proofs.HistoryLaws.{Extends, extends_more, HeldName, Named, HeldTop, Chained, FormedLevels, inner_object, with_extends, with_held, chained_grows}
use Rattle.semantics.proofs.Machine.{note_in, link_in, note, link_of, undo, record_of, marks_at, logged, unwound, first_of, rest_of, one_more, less_of, one_less, header_of}
use Rattle.semantics.proofs.LayerLaws.{Layer, layer_grows, layer_enter, layer_close, layer_header, live_item, record_count, undone, undo_note}
use Rattle.semantics.proofs.MarkLaws.{Stand, stand_of, Start, since_same, since_names, Marked, Marks, marks_lengths, marks_later, marks_enter}

-- what the machine uses, the elements of its containers and the marks set in them, and the ledger's tallies
pub record Used : Type 0 where
  pub bytes : List ℕ
  pub entries : List Entry
  pub elements : List ℕ
  pub undos : List Entry
  pub chains : List (List Mark)
  pub tallies : List Tallied

-- the names after a container's own
abbrev pub own_names : Level → List Name
own_names l = with_name l.before l.own

-- the entries outside of it with its own
abbrev pub noted : Level → List Container → Used → List Entry
noted l ks s = note (own_names l) ks l.own (length s.bytes) s.entries

-- the undo records outside of it with its own
abbrev pub logged_by : Level → List Container → Used → List Entry
logged_by l ks s = logged (own_names l) ks l.own s.entries s.undos

-- the tally of a container with this data, that uniqueness mark and these records
abbrev pub tally_of : List ℕ → Bool → List Entry → Tally
tally_of body u own = record { bytes = length body; unique = u; undo = length own }

-- where it starts
abbrev pub start_of : Level → Container → Start
start_of l k = record { names = own_names l; value = k.value; entries = k.entries; undo = k.undo }

-- a container was opened where so much was used
pub record Opened (l : Level) (k : Container) (ks : List Container) (s : Used) : Type 0 where
  pub value : k.value ≡ length s.bytes
  pub names : k.names ≡ length l.before
  pub text : k.text ≡ length (joined l.before)
  pub entries : k.entries ≡ length (noted l ks s)
  pub undo : k.undo ≡ length (logged_by l ks s)
  pub object : k.object ≡ l.object
  pub parent : k.parent ≡ link_of (own_names l) ks l.own s.entries

-- the innermost container, Under telling of those outside of it
pub record Nested (floor : ℕ) (top : Option Tree) (l : Level) (k : Container) (ks : List Container) (ns : List Name) (s : Used) (Under : List Name → Used → Type 0) : Type 0 where
  pub outer : Used
  pub body : List ℕ
  pub seg : List Entry
  pub count : ℕ
  pub own : List Entry
  pub chain : List Mark
  pub told : List Tally
  pub bytes_are : s.bytes ≡ outer.bytes ++ body
  pub entries_are : s.entries ≡ noted l ks outer ++ seg
  pub elements_are : s.elements ≡ count ∷ one_more ks outer.elements
  pub undos_are : s.undos ≡ logged_by l ks outer ++ own
  pub chains_are : s.chains ≡ chain ∷ outer.chains
  pub tallies_are : s.tallies ≡ record { now = tally_of body k.unique own; marks = told } ∷ outer.tallies
  pub marks_are : k.marks ≡ length chain
  pub few : length chain ≤ 16
  pub opened : Opened l k ks outer
  pub topless : top ≡ none
  pub grows : Extends (own_names l) ns
  pub layer : Layer floor ns l.object l.items seg count body
  pub marks : Marks floor l.object (start_of l k) l.marks chain told (stand_of ns seg body own count)
  pub under : Under l.before outer

-- where none is open, the bytes are those of the top value
abbrev pub Topped : ℕ → Option Tree → List Name → List ℕ → Type 0
Topped floor none ns bs = bs ≡ []
Topped floor (some t) ns bs = bs ≡ encode floor ns t

-- no container is open
pub record Ground (floor : ℕ) (top : Option Tree) (unique : Bool) (ns : List Name) (s : Used) : Type 0 where
  pub value : Topped floor top ns s.bytes
  pub entries_are : s.entries ≡ []
  pub elements_are : s.elements ≡ []
  pub undos_are : s.undos ≡ []
  pub chains_are : s.chains ≡ []
  pub tallies_are : s.tallies ≡ record { now = tally_of s.bytes unique []; marks = [] } ∷ []

-- the containers of the machine and those of the history, level by level
abbrev pub Levels : ℕ → Option Tree → Bool → List Level → List Container → List Name → Used → Type 0
Levels floor top u [] [] ns s = Ground floor top u ns s
Levels floor top u [] (k ∷ ks) ns s = ⊥
Levels floor top u (l ∷ ls) [] ns s = ⊥
Levels floor top u (l ∷ ls) (k ∷ ks) ns s = Nested floor top l k ks ns s (λ n z. Levels floor top u ls ks n z)

-- ---- the innermost's own part

module _ {floor : ℕ} {top : Option Tree} {l : Level} {k : Container} {ks : List Container} {ns : List Name} {s : Used} {Under : List Name → Used → Type 0} (x : Nested floor top l k ks ns s Under) where
  pub front_entries : take k.entries s.entries ≡ noted l ks x.outer
  front_entries = ap (take k.entries) x.entries_are ∙ take_at (noted l ks x.outer) x.seg k.entries (sym x.opened.entries)

  pub own_entries : drop k.entries s.entries ≡ x.seg
  own_entries = ap (drop k.entries) x.entries_are ∙ drop_at (noted l ks x.outer) x.seg k.entries (sym x.opened.entries)

  pub front_undos : take k.undo s.undos ≡ logged_by l ks x.outer
  front_undos = ap (take k.undo) x.undos_are ∙ take_at (logged_by l ks x.outer) x.own k.undo (sym x.opened.undo)

  pub front_bytes : take k.value s.bytes ≡ x.outer.bytes
  front_bytes = ap (take k.value) x.bytes_are ∙ take_at x.outer.bytes x.body k.value (sym x.opened.value)

  pub own_bytes : drop k.value s.bytes ≡ x.body
  own_bytes = ap (drop k.value) x.bytes_are ∙ drop_at x.outer.bytes x.body k.value (sym x.opened.value)

  pub own_size : length s.bytes - k.value ≡ length x.body
  own_size = omega (arith, ap length x.bytes_are, length-append x.outer.bytes x.body, x.opened.value)

-- ---- names that come later

topped_grows : (floor : ℕ) {ns ms : List Name} (top : Option Tree) (bs : List ℕ) → Extends ns ms → HeldTop ns top → Topped floor top ns bs → Topped floor top ms bs
topped_grows floor none bs e h v = v
topped_grows floor {ns} (some t) bs e h v = v ∙ sym (ap (λ z. encode floor z t) e.grown ∙ encode_grows floor ns e.more t h)

-- the levels at more names
pub levels_grow : (floor : ℕ) {ns ms : List Name} (top : Option Tree) (u : Bool) (ls : List Level) (ks : List Container) (s : Used) → Extends ns ms → Chained ns top ls
    → Levels floor top u ls ks ns s → Levels floor top u ls ks ms s
levels_grow floor top u [] [] s e h x =
    record {
      value = topped_grows floor top s.bytes e h x.value;
      entries_are = x.entries_are;
      elements_are = x.elements_are;
      undos_are = x.undos_are;
      chains_are = x.chains_are;
      tallies_are = x.tallies_are;
    }
levels_grow floor top u [] (k ∷ ks) s e h x = absurd x
levels_grow floor top u (l ∷ ls) [] s e h x = absurd x
levels_grow floor top u (l ∷ ls) (k ∷ ks) s e h x =
    record {
      outer = x.outer;
      body = x.body;
      seg = x.seg;
      count = x.count;
      own = x.own;
      chain = x.chain;
      told = x.told;
      bytes_are = x.bytes_are;
      entries_are = x.entries_are;
      elements_are = x.elements_are;
      undos_are = x.undos_are;
      chains_are = x.chains_are;
      tallies_are = x.tallies_are;
      marks_are = x.marks_are;
      few = x.few;
      opened = x.opened;
      topless = x.topless;
      grows = extends_more x.grows e;
      layer = layer_grows l.object l.items e h.0.held x.layer;
      marks =
          marks_later floor l.object (start_of l k) l.marks x.chain x.told
          (since_names l.object x.seg x.body x.own x.count e) x.marks;
      under = x.under;
    }

-- ---- a value enters

-- what is used once a tree has entered
abbrev pub used_with : ℕ → List Name → List Level → List Container → Option Name → Tree → Used → Used
used_with floor ns ls ks nm t s =
    record {
      bytes = s.bytes ++ encode floor ns t;
      entries = note ns ks nm (length s.bytes) s.entries;
      elements = one_more ks s.elements;
      undos = logged ns ks nm s.entries s.undos;
      chains = s.chains;
      tallies = add_to (length (encode floor ns t)) (own_undo nm ls) s.tallies;
    }

-- a value that replaces none takes no record
pub no_undo : (nm : Option Name) → own_undo nm [] ≡ 0
unfolding own_undo
no_undo none = refl
no_undo (some n) = refl

pub live_item_lem : (nm : Option Name) (l : Level) (ls : List Level) → live_in nm (l ∷ ls) ≡ live_item nm l.items
live_item_lem none l ls = refl
live_item_lem (some n) l ls = refl

ground_empty : (floor : ℕ) (top : Option Tree) (ns : List Name) (bs : List ℕ) → top ≡ none → Topped floor top ns bs → bs ≡ []
ground_empty floor none ns bs e v = v
ground_empty floor (some t) ns bs e v = absurd (let z : ◌≡◌ {A = ℕ} 0 1 = cc in omega arith)

-- the records that a value takes, by the history
own_undo_lem : {floor : ℕ} {top : Option Tree} {Under : List Name → Used → Type 0} (l : Level) (ls : List Level) (k : Container) (ks : List Container)
    (ns : List Name) (s : Used) (nm : Option Name)
    → HeldItems ns l.items → Named l.object nm → HeldName ns nm → (x : Nested floor top l k ks ns s Under)
    → length (record_of (length x.chain) (link_in ns nm x.seg)) ≡ own_undo nm (l ∷ ls)
unfolding own_undo
own_undo_lem {floor} l ls k ks ns s nm h n e x =
    let c =
    (marks_lengths floor l.object (start_of l k) l.marks x.chain x.told (stand_of ns x.seg x.body x.own x.count) x.marks).0 in
    record_count h l.object nm (length x.chain) n e x.layer ∙ sym (λ i. cond (live_item_lem nm l ls i && ltb 0 (c i)) 1 0)

-- A VALUE ENTERS the innermost container, or is the top value.
pub levels_enter : (floor : ℕ) (top : Option Tree) (u : Bool) (ls : List Level) (ks : List Container) (ns : List Name) (s : Used) (nm : Option Name) (t : Tree) → top ≡ none → Chained ns top ls
    → Named (inner_object ls) nm → HeldName ns nm → Levels floor top u ls ks ns s
    → Levels floor (enter ns top ls nm t).top u (enter ns top ls nm t).levels ks ns (used_with floor ns ls ks nm t s)
unfolding enter note one_more logged link_of record_of add_to
levels_enter floor top u [] [] ns s nm t e h n k x =
    let b : s.bytes ≡ [] = ground_empty floor top ns s.bytes e x.value in
    record {
      value = ap (λ z. z ++ encode floor ns t) b;
      entries_are = x.entries_are;
      elements_are = x.elements_are;
      undos_are = append-nil s.undos ∙ x.undos_are;
      chains_are = x.chains_are;
      tallies_are =
          ap (add_to (length (encode floor ns t)) (own_undo nm [])) x.tallies_are
          ∙ (let p : length (encode floor ns t) + length s.bytes ≡ length (s.bytes ++ encode floor ns t) =
          omega (arith, length-append s.bytes (encode floor ns t)) in
          let q : own_undo nm [] + 0 ≡ 0 = omega (arith, no_undo nm) in
          λ i. record { now = record { bytes = p i; unique = u; undo = q i }; marks = [] } ∷ []);
    }
levels_enter floor top u [] (c ∷ ks) ns s nm t e h n k x = absurd x
levels_enter floor top u (l ∷ ls) [] ns s nm t e h n k x = absurd x
levels_enter floor top u (l ∷ ls) (c ∷ ks) ns s nm t e h n k x =
    let o = own_size x in
    let f = front_entries x in
    let g = own_entries x in
    let b = x.opened.object in
    let w = x.elements_are in
    record {
      outer = x.outer;
      body = x.body ++ encode floor ns t;
      seg = note_in ns nm (length x.body) x.seg;
      count = cond l.object x.count (x.count + 1);
      own = x.own ++ record_of (length x.chain) (link_in ns nm x.seg);
      chain = x.chain;
      told = x.told;
      bytes_are = ap (λ z. z ++ encode floor ns t) x.bytes_are ∙ append_assoc x.outer.bytes x.body (encode floor ns t);
      entries_are = λ i. f i ++ note_in ns nm (o i) (g i);
      elements_are = λ i. cond (b i) (first_of 0 (w i)) (first_of 0 (w i) + 1) ∷ rest_of (w i);
      undos_are =
          (λ i. x.undos_are i ++ record_of (x.marks_are i) (link_in ns nm (g i)))
          ∙ append_assoc (logged_by l ks x.outer) x.own (record_of (length x.chain) (link_in ns nm x.seg));
      chains_are = x.chains_are;
      tallies_are =
          ap (add_to (length (encode floor ns t)) (own_undo nm (l ∷ ls))) x.tallies_are
          ∙ (let p : length (encode floor ns t) + length x.body ≡ length (x.body ++ encode floor ns t) =
          omega (arith, length-append x.body (encode floor ns t)) in
          let q : own_undo nm (l ∷ ls) + length x.own ≡ length (x.own ++ record_of (length x.chain) (link_in ns nm x.seg)) =
          omega (arith, length-append x.own (record_of (length x.chain) (link_in ns nm x.seg)), own_undo_lem l ls c ks ns s nm h.0.held n k x) in
          λ i. record { now = record { bytes = p i; unique = c.unique; undo = q i }; marks = x.told } ∷ x.outer.tallies);
      marks_are = x.marks_are;
      few = x.few;
      opened = record {
        value = x.opened.value;
        names = x.opened.names;
        text = x.opened.text;
        entries = x.opened.entries;
        undo = x.opened.undo;
        object = x.opened.object;
        parent = x.opened.parent;
      };
      topless = x.topless;
      grows = x.grows;
      layer = layer_enter floor ns l.object l.items x.seg x.count x.body nm t h.0.held n k x.layer;
      marks =
          marks_enter floor l.object (start_of l c) ns nm (length x.body) x.seg x.body (encode floor ns t) x.own x.count n l.marks
          x.chain x.told x.marks;
      under = x.under;
    }

-- ---- close

note_grows : {ns ms : List Name} (ks : List Container) (nm : Option Name) (at : ℕ) (es : List Entry) → Extends ns ms → HeldName ns nm → note ms ks nm at es ≡ note ns ks nm at es
unfolding note note_in
note_grows [] nm at es e h = refl
note_grows (k ∷ ks) none at es e h = refl
note_grows {ns} (k ∷ ks) (some n) at es e h = rw (e.grown, place_held n ns e.more h)

link_grows : {ns ms : List Name} (ks : List Container) (nm : Option Name) (es : List Entry) → Extends ns ms → HeldName ns nm
    → link_of ms ks nm es ≡ link_of ns ks nm es
unfolding link_of link_in
link_grows [] nm es e h = refl
link_grows (k ∷ ks) none es e h = refl
link_grows {ns} (k ∷ ks) (some n) es e h = rw (e.grown, place_held n ns e.more h)

-- THE CLOSE: the innermost's tree enters the containers outside of it.
pub levels_close : (floor : ℕ) (top : Option Tree) (u : Bool) (l : Level) (ls : List Level) (k : Container) (ks : List Container) (ns : List Name) (s : Used) → Distinct ns → Chained ns top (l ∷ ls)
    → FormedLevels (l ∷ ls) → length s.bytes < 256 ^ 4 → Levels floor top u (l ∷ ls) (k ∷ ks) ns s
    → Levels floor (close_level ns top (l ∷ ls)).top u (close_level ns top (l ∷ ls)).levels ks ns (record {
      bytes = take k.value s.bytes ++ (header_of floor ns k.object (first_of 0 s.elements) (drop k.entries s.entries) (drop k.value s.bytes) ++ drop k.value s.bytes);
      entries = take k.entries s.entries;
      elements = rest_of s.elements;
      undos = take k.undo s.undos;
      chains = rest_of s.chains;
      tallies = add_to (inner_sum s.tallies + header_size floor ns (l ∷ ls) (inner_sum s.tallies)) (own_undo l.own ls) (outer_tallies s.tallies);
    })
unfolding close_level header_size logged
levels_close floor top u l ls k ks ns s d h f small x =
    let t = nest l.object l.items in
    let st = h.0 in
    let bt = front_bytes x in
    let bd = own_bytes x in
    let ed = own_entries x in
    let ob = x.opened.object in
    let w = x.elements_are in
    let few : length x.body < 256 ^ 4 = omega (arith, ap length x.bytes_are, length-append x.outer.bytes x.body) in
    let c : header_of floor ns l.object x.count x.seg x.body ++ x.body ≡ encode floor ns t = layer_close st.held l.object f.0 few d st.apart x.layer in
    let b : take k.value s.bytes ++ (header_of floor ns k.object (first_of 0 s.elements) (drop k.entries s.entries) (drop k.value s.bytes) ++ drop k.value s.bytes) ≡ x.outer.bytes ++ encode floor ns t =
    (λ i. bt i ++ (header_of floor ns (ob i) (first_of 0 (w i)) (ed i) (bd i) ++ bd i)) ∙ ap (λ z. x.outer.bytes ++ z) c in
    let own : HeldName (own_names l) l.own = with_held l.before l.own in
    let e : take k.entries s.entries ≡ note ns ks l.own (length x.outer.bytes) x.outer.entries =
    front_entries x ∙ sym (note_grows ks l.own (length x.outer.bytes) x.outer.entries x.grows own) in
    let size : length x.body + header_size floor ns (l ∷ ls) (length x.body) ≡ length (encode floor ns t) =
    omega (arith, ap length c, length-append (header_of floor ns l.object x.count x.seg x.body) x.body, layer_header st.held l.object d st.apart x.layer) in
    let v : add_to (inner_sum s.tallies + header_size floor ns (l ∷ ls) (inner_sum s.tallies)) (own_undo l.own ls) (outer_tallies s.tallies)
    ≡ add_to (length (encode floor ns t)) (own_undo l.own ls) x.outer.tallies =
    ap (λ z. add_to (inner_sum z + header_size floor ns (l ∷ ls) (inner_sum z)) (own_undo l.own ls) (outer_tallies z)) x.tallies_are
    ∙ ap (λ z. add_to z (own_undo l.own ls) x.outer.tallies) size in
    let r : take k.undo s.undos ≡ logged ns ks l.own x.outer.entries x.outer.undos =
    front_undos x ∙ ap (λ z. x.outer.undos ++ record_of (marks_at ks) z) (sym (link_grows ks l.own x.outer.entries x.grows own)) in
    let m : rest_of s.chains ≡ x.outer.chains = ap rest_of x.chains_are in
    let under : Levels floor top u ls ks ns x.outer = levels_grow floor top u ls ks x.outer st.extends h.1 x.under in
    let p : used_with floor ns ls ks l.own t x.outer ≡ record {
      bytes = take k.value s.bytes ++ (header_of floor ns k.object (first_of 0 s.elements) (drop k.entries s.entries) (drop k.value s.bytes) ++ drop k.value s.bytes);
      entries = take k.entries s.entries;
      elements = rest_of s.elements;
      undos = take k.undo s.undos;
      chains = rest_of s.chains;
      tallies = add_to (inner_sum s.tallies + header_size floor ns (l ∷ ls) (inner_sum s.tallies)) (own_undo l.own ls) (outer_tallies s.tallies);
    } = λ i. record { bytes = sym b i; entries = sym e i; elements = rest_of (sym w i); undos = sym r i; chains = sym m i; tallies = sym v i } in
    subst (λ (z : Used). Levels floor (enter ns top ls l.own t).top u (enter ns top ls l.own t).levels ks ns z) p
    (levels_enter floor top u ls ks ns x.outer l.own t x.topless (chained_grows top ls st.extends h.1) f.1 st.own_held under)

-- ---- roll back

undo_is : (k : Container) (ks : List Container) (p : Optional Entry) (es : List Entry) → undo (k ∷ ks) p es ≡ undone k.object k.entries p es
unfolding undo
undo_is k ks None es = refl
undo_is k ks (Some e) es = refl

-- the entries without a container's own are those before its open
levels_undo : (floor : ℕ) (top : Option Tree) (u : Bool) (ls : List Level) (ks : List Container) (ns ms : List Name) (s : Used) (nm : Option Name) (at : ℕ) → Named (inner_object ls) nm → Levels floor top u ls ks ns s
    → undo ks (link_of ms ks nm s.entries) (note ms ks nm at s.entries) ≡ s.entries
unfolding note link_of undo
levels_undo floor top u [] [] ns ms s nm at n x = refl
levels_undo floor top u [] (k ∷ ks) ns ms s nm at n x = absurd x
levels_undo floor top u (l ∷ ls) [] ns ms s nm at n x = absurd x
levels_undo floor top u (l ∷ ls) (k ∷ ks) ns ms s nm at n x =
    let f = front_entries x in
    let g = own_entries x in
    let b = x.opened.object in
    undo_is k ks (link_in ms nm (drop k.entries s.entries)) (take k.entries s.entries ++ note_in ms nm (at - k.value) (drop k.entries s.entries))
    ∙ ((λ i. undone (b i) (x.opened.entries i) (link_in ms nm (g i)) (f i ++ note_in ms nm (at - k.value) (g i)))
    ∙ (undo_note l.object ms nm (at - k.value) (noted l ks x.outer) x.seg n ∙ sym x.entries_are))

-- so are the elements
elements_undo : (floor : ℕ) (top : Option Tree) (u : Bool) (ls : List Level) (ks : List Container) (ns ms : List Name) (s : Used) (nm : Option Name) (es : List Entry) → Named (inner_object ls) nm
    → Levels floor top u ls ks ns s → one_less ks (link_of ms ks nm es) (one_more ks s.elements) ≡ s.elements
unfolding one_more one_less link_of link_in
elements_undo floor top u [] [] ns ms s nm es n x = refl
elements_undo floor top u [] (k ∷ ks) ns ms s nm es n x = absurd x
elements_undo floor top u (l ∷ ls) [] ns ms s nm es n x = absurd x
elements_undo floor top u (l ∷ ls) (k ∷ ks) ns ms s nm es n x = rw (x.elements_are, x.opened.object) (ap (λ z. z ∷ one_more ks x.outer.elements) (go l.object nm n))
  where
    stays : (p : Optional Entry) → less_of true p x.count ≡ x.count
    stays None = refl
    stays (Some e) = refl

    go : (object : Bool) (nm : Option Name) → Named object nm → less_of object (link_in ms nm (drop k.entries es)) (cond object x.count (x.count + 1)) ≡ x.count
    go true nm n = stays (link_in ms nm (drop k.entries es))
    go false none n = omega arith
    go false (some y) n = absurd n

-- its own undo record is free again
undos_roll : {floor : ℕ} {top : Option Tree} {l : Level} {k : Container} {ks : List Container} {ns : List Name} {s : Used}
    {Under : List Name → Used → Type 0} → (x : Nested floor top l k ks ns s Under)
    → take (k.undo - length (record_of (marks_at ks) k.parent)) s.undos ≡ x.outer.undos
unfolding logged
undos_roll {l = l} {k = k} {ks = ks} {s = s} x =
    let r = record_of (marks_at ks) (link_of (own_names l) ks l.own x.outer.entries) in
    let p : s.undos ≡ x.outer.undos ++ (r ++ x.own) = x.undos_are ∙ append_assoc x.outer.undos r x.own in
    let n : length x.outer.undos ≡ k.undo - length (record_of (marks_at ks) k.parent) =
    omega (arith, x.opened.undo, length-append x.outer.undos r, ap (λ z. length (record_of (marks_at ks) z)) x.opened.parent) in
    ap (take (k.undo - length (record_of (marks_at ks) k.parent))) p
    ∙ take_at x.outer.undos (r ++ x.own) (k.undo - length (record_of (marks_at ks) k.parent)) n

-- THE ROLL BACK: all is as before the open.
pub levels_roll : (floor : ℕ) (top : Option Tree) (u : Bool) (l : Level) (ls : List Level) (k : Container) (ks : List Container) (ns : List Name) (s : Used) → FormedLevels (l ∷ ls)
    → Levels floor top u (l ∷ ls) (k ∷ ks) ns s → Levels floor top u ls ks l.before (record {
      bytes = take k.value s.bytes;
      entries = undo ks k.parent (take k.entries s.entries);
      elements = one_less ks k.parent (rest_of s.elements);
      undos = take (k.undo - length (record_of (marks_at ks) k.parent)) s.undos;
      chains = rest_of s.chains;
      tallies = outer_tallies s.tallies;
    })
levels_roll floor top u l ls k ks ns s n x =
    let b = front_bytes x in
    let f = front_entries x in
    let e : undo ks k.parent (take k.entries s.entries) ≡ x.outer.entries =
    (λ i. undo ks (x.opened.parent i) (f i)) ∙ levels_undo floor top u ls ks l.before (own_names l) x.outer l.own (length x.outer.bytes) n.1 x.under in
    let q = x.elements_are in
    let w : one_less ks k.parent (rest_of s.elements) ≡ x.outer.elements =
    (λ i. one_less ks (x.opened.parent i) (rest_of (q i))) ∙ elements_undo floor top u ls ks l.before (own_names l) x.outer l.own x.outer.entries n.1 x.under in
    let v : outer_tallies s.tallies ≡ x.outer.tallies = ap outer_tallies x.tallies_are in
    let m : rest_of s.chains ≡ x.outer.chains = ap rest_of x.chains_are in
    let r = undos_roll x in
    let p : x.outer ≡ record {
      bytes = take k.value s.bytes;
      entries = undo ks k.parent (take k.entries s.entries);
      elements = one_less ks k.parent (rest_of s.elements);
      undos = take (k.undo - length (record_of (marks_at ks) k.parent)) s.undos;
      chains = rest_of s.chains;
      tallies = outer_tallies s.tallies;
    } =
    λ i. record { bytes = sym b i; entries = sym e i; elements = sym w i; undos = sym r i; chains = sym m i; tallies = sym v i } in
    subst (λ (z : Used). Levels floor top u ls ks l.before z) p x.under

-- the names are cut back to those before the open
pub names_roll : {floor : ℕ} {top : Option Tree} {l : Level} {k : Container} {ks : List Container} {ns : List Name} {s : Used} {Under : List Name → Used → Type 0} → Nested floor top l k ks ns s Under
    → take k.names ns ≡ l.before
names_roll {l} {k} {ns} x =
    let e = extends_more (with_extends l.before l.own) x.grows in
    ap (take k.names) e.grown ∙ take_at l.before e.more k.names (sym x.opened.names)

-- ---- marks

-- the mark that is set where so much is used
abbrev pub mark_from : List Name → Used → ℕ → Bool → Mark
mark_from ns s n u =
    record {
      value = length s.bytes;
      names = length ns;
      text = length (joined ns);
      entries = length s.entries;
      undo = length s.undos;
      count = n;
      unique = u;
    }

-- A MARK: a link without records.
pub levels_mark : (floor : ℕ) (top : Option Tree) (u : Bool) (l : Level) (ls : List Level) (k : Container) (ks : List Container) (ns : List Name)
    (s : Used)
    → (x : Levels floor top u (l ∷ ls) (k ∷ ks) ns s) → k.marks < 16
    → Levels floor top u (holding l l.items (record { items = l.items; names = ns } ∷ l.marks) ∷ ls) (with_marks k (k.marks + 1) ∷ ks) ns (record {
      bytes = s.bytes;
      entries = s.entries;
      elements = s.elements;
      undos = s.undos;
      chains = (mark_from ns s x.count k.unique ∷ x.chain) ∷ x.outer.chains;
      tallies = tally_mark s.tallies;
    })
unfolding with_marks tally_mark
levels_mark floor top u l ls k ks ns s x h =
    let now : Stand = stand_of ns x.seg x.body x.own x.count in
    let n = x.marks_are in
    record {
      outer = x.outer;
      body = x.body;
      seg = x.seg;
      count = x.count;
      own = x.own;
      chain = mark_from ns s x.count k.unique ∷ x.chain;
      told = tally_of x.body k.unique x.own ∷ x.told;
      bytes_are = x.bytes_are;
      entries_are = x.entries_are;
      elements_are = x.elements_are;
      undos_are = x.undos_are;
      chains_are = refl;
      tallies_are = ap tally_mark x.tallies_are;
      marks_are = omega (arith, n);
      few = omega (arith, n);
      opened = record {
        value = x.opened.value;
        names = x.opened.names;
        text = x.opened.text;
        entries = x.opened.entries;
        undo = x.opened.undo;
        object = x.opened.object;
        parent = x.opened.parent;
      };
      topless = x.topless;
      grows = x.grows;
      layer = x.layer;
      marks = record {
        then = now;
        since = since_same l.object now;
        copied = refl;
        grows = x.grows;
        layer = x.layer;
        value = omega (arith, x.opened.value, ap length x.bytes_are, length-append x.outer.bytes x.body);
        names = refl;
        text = refl;
        entries = omega (arith, x.opened.entries, ap length x.entries_are, length-append (noted l ks x.outer) x.seg);
        undo = omega (arith, x.opened.undo, ap length x.undos_are, length-append (logged_by l ks x.outer) x.own);
        count = refl;
        tally = refl;
        rest = x.marks;
      };
      under = x.under;
    }

-- THE RETURN to the first of these marks, which are some of the innermost's.
pub levels_back : (floor : ℕ) (top : Option Tree) (u : Bool) (l : Level) (ls : List Level) (k : Container) (ks : List Container) (ns : List Name)
    (s : Used)
    (x : Levels floor top u (l ∷ ls) (k ∷ ks) ns s) (c : Copy) (cs : List Copy) (p : Mark) (ps : List Mark) (t : Tally) (ts : List Tally)
    → (y : Marks floor l.object (start_of l k) (c ∷ cs) (p ∷ ps) (t ∷ ts) (stand_of ns x.seg x.body x.own x.count)) → length (p ∷ ps) ≤ 16
    → Levels floor top u (holding l c.items (c ∷ cs) ∷ ls) (with_marks (with_unique k p.unique) (length (p ∷ ps)) ∷ ks) y.then.names (record {
      bytes = take p.value s.bytes;
      entries =
          take k.entries s.entries ++ unwound k.object (drop p.undo s.undos)
          (take (p.entries - k.entries) (drop k.entries s.entries));
      elements = p.count ∷ rest_of s.elements;
      undos = take p.undo s.undos;
      chains = (p ∷ ps) ∷ x.outer.chains;
      tallies = record { now = t; marks = t ∷ ts } ∷ x.outer.tallies;
    })
unfolding with_marks with_unique
levels_back floor top u l ls k ks ns s x c cs p ps t ts y few =
    let z = y.then in
    let since = y.since in
    let base = logged_by l ks x.outer in
    let b : s.bytes ≡ (x.outer.bytes ++ z.body) ++ since.more =
    x.bytes_are ∙ (ap (λ w. x.outer.bytes ++ w) since.body ∙ sym (append_assoc x.outer.bytes z.body since.more)) in
    let bn : length (x.outer.bytes ++ z.body) ≡ p.value = omega (arith, y.value, x.opened.value, length-append x.outer.bytes z.body) in
    let v : s.undos ≡ (base ++ z.own) ++ since.records =
    x.undos_are ∙ (ap (λ w. base ++ w) since.own ∙ sym (append_assoc base z.own since.records)) in
    let vn : length (base ++ z.own) ≡ p.undo = omega (arith, y.undo, x.opened.undo, length-append base z.own) in
    let f = front_entries x in
    let g = own_entries x in
    let o = x.opened.object in
    let r : drop p.undo s.undos ≡ since.records = ap (drop p.undo) v ∙ drop_at (base ++ z.own) since.records p.undo vn in
    let n : p.entries - k.entries ≡ length z.seg = omega (arith, y.entries) in
    record {
      outer = x.outer;
      body = z.body;
      seg = z.seg;
      count = z.count;
      own = z.own;
      chain = p ∷ ps;
      told = t ∷ ts;
      bytes_are = ap (take p.value) b ∙ take_at (x.outer.bytes ++ z.body) since.more p.value bn;
      entries_are = (λ i. f i ++ unwound (o i) (r i) (take (n i) (g i))) ∙ ap (λ w. noted l ks x.outer ++ w) since.back.back;
      elements_are = (λ i. y.count i ∷ rest_of (x.elements_are i));
      undos_are = ap (take p.undo) v ∙ take_at (base ++ z.own) since.records p.undo vn;
      chains_are = refl;
      tallies_are = ap (λ e. record { now = e; marks = t ∷ ts } ∷ x.outer.tallies) y.tally;
      marks_are = refl;
      few = few;
      opened = record {
        value = x.opened.value;
        names = x.opened.names;
        text = x.opened.text;
        entries = x.opened.entries;
        undo = x.opened.undo;
        object = x.opened.object;
        parent = x.opened.parent;
      };
      topless = x.topless;
      grows = y.grows;
      layer = y.layer;
      marks = record {
        then = z;
        since = since_same l.object z;
        copied = y.copied;
        grows = y.grows;
        layer = y.layer;
        value = y.value;
        names = y.names;
        text = y.text;
        entries = y.entries;
        undo = y.undo;
        count = y.count;
        tally = y.tally;
        rest = y.rest;
      };
      under = x.under;
    }

-- the names are cut back to those at the mark
pub names_back : {floor : ℕ} {object : Bool} {start : Start} {c : Copy} {p : Mark} {t : Tally} {now : Stand} {Rest : Stand → Type 0}
    → (y : Marked floor object start c p t now Rest)
    → take p.names now.names ≡ y.then.names
names_back {p = p} y = let e = y.since.names in ap (take p.names) e.grown ∙ take_at y.then.names e.more p.names (sym y.names)
