-- What a layer of reversed marks and a window answer, and that they are proper.
use Rattle.std.specs.Prelude.{◌≡◌, ℕ, ◌+◌, ◌-◌, ◌^◌, ◌<◌, min, drop, bit_and, slice_index}
use Rattle.std.proofs.Math.Path.{refl, ap}
use Rattle.std.proofs.Common.{sym, ◌∙◌, subst, inl, inr, arith}
use Rattle.std.specs.Int.Bits.{mask_lt}
use Rattle.std.proofs.lemmas.Nat.{pow_pos, xor_lt}
use Rattle.std.proofs.lemmas.List.{get_or_past, get_or-take, get_or-drop, get_or-map, length-take, length-drop, length-map}
use Rattle.std.proofs.lemmas.Bool.{cases_lt}
use Rattle.marks.specs.Numbers.{most_marks, InRange}
use Rattle.marks.specs.Sets.{both, differing, all_below}
use Rattle.tables.specs.Meaning.{Meaning, Proper, count_of}
use Rattle.tables.specs.Layers.{reversed, windowed}

-- ---- reversed marks

module _ (flipped : ℕ) (m : Meaning) where
  pub reversed_width : (reversed flipped m).width ≡ m.width
  unfolding reversed
  reversed_width = refl

  pub reversed_count : count_of (reversed flipped m) ≡ count_of m
  unfolding reversed
  reversed_count = length-map m.rows _

  pub reversed_at : (k : ℕ) → k < count_of m → slice_index (reversed flipped m).rows k ≡ differing (slice_index m.rows k) (both flipped (all_below m.width))
  unfolding reversed
  reversed_at k h = get_or-map (λ row. differing row (both flipped (all_below m.width))) m.rows k 0 0 h

  pub reversed_proper : Proper m → Proper (reversed flipped m)
  reversed_proper p = record {
    wide = subst (λ w. InRange most_marks w) (sym reversed_width) p.wide;
    few = omega (arith, reversed_count, p.few);
    within = λ k. rw reversed_width (at k);
  }
    where
      at : (k : ℕ) → slice_index (reversed flipped m).rows k < 2 ^ m.width
      at k =
          elim (cases_lt k (count_of m)) [
            | inl h ↦ subst (λ row. row < 2 ^ m.width) (sym (reversed_at k h))
                (xor_lt m.width (slice_index m.rows k) (bit_and flipped (all_below m.width)) (p.within k) (mask_lt flipped m.width))
            | inr h ↦ omega (arith, get_or_past (reversed flipped m).rows k 0 (omega (arith, reversed_count)), pow_pos m.width)
          ]

-- ---- a window

module _ (first count : ℕ) (m : Meaning) where
  pub windowed_width : (windowed first count m).width ≡ m.width
  unfolding windowed
  windowed_width = refl

  pub windowed_count : count_of (windowed first count m) ≡ min count (count_of m - (first - 1))
  unfolding windowed
  windowed_count = length-take count (drop (first - 1) m.rows) ∙ ap (min count) (length-drop (first - 1) m.rows)

  pub windowed_at : (k : ℕ) → k < count → slice_index (windowed first count m).rows k ≡ slice_index m.rows (first - 1 + k)
  unfolding windowed
  windowed_at k h = get_or-take count (drop (first - 1) m.rows) k 0 h ∙ get_or-drop (first - 1) m.rows k 0

  pub windowed_proper : Proper m → Proper (windowed first count m)
  windowed_proper p = record {
    wide = subst (λ w. InRange most_marks w) (sym windowed_width) p.wide;
    few = omega (arith, windowed_count, p.few);
    within = λ k. rw windowed_width (at k);
  }
    where
      at : (k : ℕ) → slice_index (windowed first count m).rows k < 2 ^ m.width
      at k =
          elim (cases_lt k count) [
            | inl h ↦ subst (λ row. row < 2 ^ m.width) (sym (windowed_at k h)) (p.within (first - 1 + k))
            | inr h ↦ omega (arith, get_or_past (windowed first count m).rows k 0 (omega (arith, windowed_count)), pow_pos m.width)
          ]
