-- What closing a list writes and leaves behind, its offsets had by walking its data.
use Rattle.std.specs.Prelude.{Bool, not, ◌||◌, List, ℕ, ◌-◌, leb, length}
use Rattle.encoding.specs.Slices.{counted}
use Rattle.container.specs.Layout.{list_header}
use Rattle.container.specs.Close.{Closed, Closes}
use Rattle.measure.specs.Measure.{data_in, starts_in, whole_values}

-- 1: marks that fall, or a count that exceeds what is lent; document 02, A8, "the data is not as many whole values as the list counts"
abbrev pub damaged : ℕ → ℕ → ℕ → List ℕ → Bool
damaged start used count value = not (leb start used) || (not (leb used (counted (length value))) || not (whole_values count (data_in start used value)))

-- "Finished bytes are to be as they were": document 01's header, over the starts that the data gives
abbrev pub list_front : ℕ → ℕ → ℕ → ℕ → List ℕ → List ℕ
list_front start used count floor value = list_header floor (starts_in count 0 (data_in start used value)) (used - start)

-- an answer and the value bytes at exit
abbrev pub ClosesList : ℕ → ℕ → ℕ → ℕ → List ℕ → Closed → List ℕ → Type 0
ClosesList start used count floor value = Closes (damaged start used count value) start used (list_front start used count floor value) value
