-- For the code, which has no storage of its own: both sizes before the first byte is written, and the names in use found one by one in rising order.
use Rattle.std.specs.Prelude.{Bool, true, cond, List, [], ◌∷◌, ℕ, suc, ◌+◌, length}
use Rattle.std.proofs.Math.Option.{Option, none, some}
use Rattle.metadata.specs.Names.{Name, below, place}
use Rattle.container.specs.Layout.{list_header_size, object_header_size}
use Rattle.live.specs.Live.{Live, leaf, nest, Lives, end, child}
use Rattle.canonical.specs.Canonical.{scalar_of}

-- ---- sizes

unfoldable pub count : Lives → ℕ
count end = 0
count (child n l ls) = suc (count ls)

-- the new id of the last name, which is the largest; `id` where there is none
unfoldable pub last_id : List Name → ℕ → Lives → ℕ
last_id names id end = id
last_id names id (child none l ls) = last_id names id ls
last_id names id (child (some n) l ls) = last_id names (place n names) ls

-- the bytes of a live tree over these names, and those of a container's data
unfoldable mutual
  pub size_of : List Name → Live → ℕ
  size_of names (leaf l) = suc (length (scalar_of l).payload)
  size_of names (nest object ls) =
      let n = total names ls in
      cond object (object_header_size 1 (count ls) (last_id names 0 ls) n) (list_header_size 1 (count ls) n) + n

  pub total : List Name → Lives → ℕ
  total names end = 0
  total names (child n l ls) = size_of names l + total names ls

-- the new ids of an object's fields, as these stand
unfoldable pub label_ids : List Name → Lives → List ℕ
label_ids names end = []
label_ids names (child none l ls) = label_ids names ls
label_ids names (child (some n) l ls) = place n names ∷ label_ids names ls

-- ---- names in rising order

-- n is above the last name taken; none was taken yet
abbrev pub above : Option Name → Name → Bool
above none n = true
above (some last) n = below last n

-- the first of ascending names above the last one taken
unfoldable pub next_name : Option Name → List Name → Option Name
next_name last [] = none
next_name last (n ∷ ns) = cond (above last n) (some n) (next_name last ns)

-- one more name seen: the lower of it and the best so far, where it is above the last one taken
abbrev pub lower : Name → Option Name → Option Name
lower n none = some n
lower n (some best) = cond (below n best) (some n) (some best)

abbrev pub better : Option Name → Name → Option Name → Option Name
better last n best = cond (above last n) (lower n best) best

abbrev pub better_label : Option Name → Option Name → Option Name → Option Name
better_label last none best = best
better_label last (some n) best = better last n best

-- a walk over all live fields, from the last to the first, that begins with the best so far
unfoldable mutual
  pub walk : Option Name → Live → Option Name → Option Name
  walk last (leaf l) best = best
  walk last (nest object ls) best = walk_all last ls best

  pub walk_all : Option Name → Lives → Option Name → Option Name
  walk_all last end best = best
  walk_all last (child n l ls) best = better_label last n (walk last l (walk_all last ls best))
