-- The list that a choice holds.
use Rattle.std.specs.Prelude.{ℕ, List, map, take}
use Rattle.marks.specs.Kinds.{Mark}

-- the numbers of the first n marks
unfoldable pub chosen : List Mark → ℕ → List ℕ
chosen marks n = take n (map (λ mark. mark.number) marks)
