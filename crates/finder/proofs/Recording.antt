-- Moves that are made of a finder one after another, and what is told of them.
use Rattle.std.proofs.Common.{◌≡◌, ℕ, ◌+◌, ◌<◌, List, [], ◌∷◌, ◌++◌, map, length, get_or, take, sym, refl, ap, ◌∙◌, subst}
use Rattle.std.proofs.lemmas.List.{map_push, take_more}
use Rattle.tables.specs.declared.table.Table.{Ghosts as Tables}
use Rattle.limits.specs.declared.limit.Limit.{Ghosts as Limits}
use Rattle.finder.specs.declared.finder.Finder.{Finder}
use Rattle.finder.specs.declared.transcripts.Move.{Move}
use Rattle.finder.specs.declared.transcripts.Told.{Told}
use Rattle.finder.specs.Runs.{Entry}
use Rattle.finder.specs.Transcripts.{move_of, entry_of}
use Rattle.finder.specs.Running.{Does, Run}

module _ {T W : Type 0} {tables : Tables T} {limits : Limits W} where
  -- one call more at the end of a run
  run_more : (entries : List Entry) (f h u : Finder T W tables limits) (e : Entry) → Run f entries h → Does h e u
      → Run f (entries ++ e ∷ []) u
  run_more [] f h u e run d = (u, subst (λ x. Does x e u) (sym run) d, refl)
  run_more (p ∷ entries) f h u e run d = (run.0, run.1, run_more entries run.0 h u e run.2 d)

  -- these moves were made of the finder f, which then is h, and this was told
  pub record Recorded (f : Finder T W tables limits) (moves : List Move) (told : List Told) (h : Finder T W tables limits) : Type 0 where
    pub asked : map move_of told ≡ moves
    pub run : Run f (map entry_of told) h

  pub recorded_none : (f : Finder T W tables limits) (told : List Told) → told ≡ [] → Recorded f [] told f
  recorded_none f told e = subst (λ ts. Recorded f [] ts f) (sym e) (record { asked = refl; run = refl })

  pub recorded_more : (f h u : Finder T W tables limits) (moves : List Move) (k : ℕ) (d : Move) (told told' : List Told) (t : Told) → k < length moves → Recorded f (take k moves) told h
      → (move_of t ≡ get_or moves k d) × Does h (entry_of t) u → told' ≡ told ++ t ∷ [] → Recorded f (take (k + 1) moves) told' u
  recorded_more f h u moves k d told told' t l r made e =
      subst (λ ts. Recorded f (take (k + 1) moves) ts u) (sym e)
      (record {
        asked = map_push move_of told t ∙ ap (λ ms. ms ++ move_of t ∷ []) r.asked ∙ ap (λ m. take k moves ++ m ∷ []) made.0 ∙ sym (take_more moves k d l);
        run = subst (λ es. Run f es u) (sym (map_push entry_of told t)) (run_more (map entry_of told) f h u (entry_of t) r.run made.1);
      })
