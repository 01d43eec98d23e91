-- The marks of a choice, and the table that shows them.
use Rattle.std.specs.Prelude.{◌≡◌, ℕ, ◌-◌, ◌^◌, ◌<◌, ◌≤◌, min, List, map, length, slice_index, slice_index_or}
use Rattle.std.proofs.Math.Path.{refl, sym, ap}
use Rattle.std.proofs.Common.{◌∙◌, subst, arith}
use Rattle.std.proofs.Math.Logic.{inl, inr}
use Rattle.std.proofs.lemmas.List.{get_or_past, get_or-take, get_or-map, length-take, length-map, ext_get_or}
use Rattle.std.proofs.lemmas.Bool.{cases_lt}
use Rattle.marks.specs.Kinds.{Mark}
use Rattle.marks.specs.Numbers.{most_marks, InRange, bit_of}
use Rattle.marks.specs.Sets.{has}
use Rattle.marks.specs.Members.{has_none}
use Rattle.marks.specs.Parts.{same_members}
use Rattle.marks.proofs.Picks.{has_picked, picked_below}
use Rattle.tables.specs.Chosen.{chosen}
use Rattle.tables.specs.Layers.{selected, chosen_from}
use Rattle.tables.specs.Meaning.{Meaning, Proper, count_of, row_of}

-- ---- the list that a choice holds

module _ (marks : List Mark) (n : ℕ) where
  pub chosen_length : length (chosen marks n) ≡ min n (length marks)
  unfolding chosen
  chosen_length = length-take n (map (λ mark. mark.number) marks) ∙ ap (min n) (length-map marks (λ mark. mark.number))

  -- where the marks are those of a choice of this width, so many are chosen
  pub chosen_wide : length marks ≡ most_marks → InRange most_marks n → InRange most_marks (length (chosen marks n))
  chosen_wide whole range = (omega (arith, chosen_length, whole, range.0), omega (arith, chosen_length, whole))

  pub chosen_at : (j : ℕ) (d : Mark) → j < n → j < length marks → slice_index (chosen marks n) j ≡ (slice_index_or marks j d).number
  unfolding chosen
  chosen_at j d h l = get_or-take n (map (λ mark. mark.number) marks) j 0 h ∙ get_or-map (λ mark. mark.number) marks j d 0 l

  pub chosen_all : (d : Mark) (numbers : List ℕ) → n ≡ length numbers → n ≤ length marks
      → ((k : ℕ) → k < n → (slice_index_or marks k d).number ≡ slice_index numbers k) → chosen marks n ≡ numbers
  chosen_all d numbers e l f =
      ext_get_or 0 (chosen marks n) numbers (omega (arith, chosen_length))
      (λ i h. let k : i < n = omega (arith, chosen_length) in chosen_at i d k (omega arith) ∙ f i k)

-- ---- the table of the marks of a list

-- of no marks none is chosen
chosen_none : (marks : List ℕ) → chosen_from marks 0 ≡ 0
chosen_none marks = same_members (chosen_from marks 0) 0 at
  where
    at : (b : ℕ) → has (chosen_from marks 0) b ≡ has 0 b
    at b = has_picked (λ j. has 0 (bit_of (slice_index marks j))) (length marks) b ∙ rw (has_none (bit_of (slice_index marks b)), has_none b) (grind arith)

module _ (marks : List ℕ) (m : Meaning) where
  pub selected_width : (selected marks m).width ≡ length marks
  unfolding selected
  selected_width = refl

  pub selected_count : count_of (selected marks m) ≡ count_of m
  unfolding selected
  selected_count = length-map m.rows _

  selected_at : (k : ℕ) → slice_index (selected marks m).rows k ≡ chosen_from marks (slice_index m.rows k)
  unfolding selected
  selected_at k =
      elim (cases_lt k (count_of m)) [
        | inl h ↦ get_or-map (chosen_from marks) m.rows k 0 0 h
        | inr h ↦ get_or_past (selected marks m).rows k 0 (omega (arith, selected_count))
            ∙ sym (ap (chosen_from marks) (get_or_past m.rows k 0 h) ∙ chosen_none marks)
      ]

  pub selected_row : (charge : ℕ) → row_of (selected marks m) charge ≡ chosen_from marks (row_of m charge)
  selected_row charge = selected_at (charge - 1)

  pub selected_proper : InRange most_marks (length marks) → Proper m → Proper (selected marks m)
  selected_proper wide p = record {
    wide = subst (InRange most_marks) (sym selected_width) wide;
    few = omega (arith, selected_count, p.few);
    within = λ k. rw selected_width (subst (λ row. row < 2 ^ length marks) (sym (selected_at k)) (picked_below (λ j. has (slice_index m.rows k) (bit_of (slice_index marks j))) (length marks)));
  }
