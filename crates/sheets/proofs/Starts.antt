-- Where the numbers of an order line begin.
use Rattle.std.proofs.Common.{◌≡◌, ℕ, ◌+◌, List, refl}
use Rattle.sheets.specs.OrderLines.{number_start, number_end}

pub starts : (text : List ℕ) → (number_start text 0 ≡ 0) × (number_start text 1 ≡ number_end text (number_start text 0) + 1) × (number_start text 2 ≡ number_end text (number_start text 1) + 1)
    × (number_start text 3 ≡ number_end text (number_start text 2) + 1) × (number_start text 4 ≡ number_end text (number_start text 3) + 1)
    × (number_start text 5 ≡ number_end text (number_start text 4) + 1)
unfolding number_start
starts text = (refl, refl, refl, refl, refl, refl)
