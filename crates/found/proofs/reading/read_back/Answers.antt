use Rattle.std.proofs.Common.{◌≡◌, ◌%◌, length, Some, None, sym, ap, ◌∙◌}
use Rattle.std.proofs.lemmas.Bool.{eqb-false}
use Rattle.marks.specs.declared.refusal.Refusal.{Refusal}
use Rattle.found.specs.Records.{record_length}
use Rattle.found.proofs.ReadBack.{comes_before_decides, cut, kept_ragged, kept_short, filled, judged, refused_ragged, refused_place, refused_order, accepted}
use Rattle.found.proofs.reading.read_back.Goals as goal

pub returns-then-not-is_empty : goal.returns-then-not-is_empty
returns-then-not-is_empty c =
    let ragged : length c.args.bytes.now % record_length ≡ 0 → ⊥ = λ e. eqb-false _ 0 (sym c.if-not-is_empty.ensures) (c.as_chunks.ensures.back_len ∙ e) in
    record {
      answer = refused_ragged c.args.bytes.now (length c.args.memory.now) ragged ∙ ap (λ (e : Refusal). Some e) (sym c.unplaced.ensures);
      memory = kept_ragged c.args.bytes.now c.args.memory.now ragged;
      order = comes_before_decides;
    }

pub returns-then-count-memory : goal.returns-then-count-memory
returns-then-count-memory c =
    let whole = cut c.as_chunks.ensures.back_len c.if-not-is_empty.ensures c.as_chunks.ensures.front c.as_chunks.ensures.front_len in
    record {
      answer = refused_place whole (length c.args.memory.now) c.if-count-memory.true ∙ ap (λ (e : Refusal). Some e) (sym c.unplaced-then-count-memory.ensures);
      memory = kept_short whole c.args.memory.now c.if-count-memory.true;
      order = comes_before_decides;
    }

pub returns-in-Some : goal.returns-in-Some
returns-in-Some c =
    let whole = cut c.as_chunks.ensures.back_len c.if-not-is_empty.ensures c.as_chunks.ensures.front c.as_chunks.ensures.front_len in
    let place = judged whole c.args.memory.now c.fill.new.memory c.fill.ensures (λ i. (c.type_inv.bytes i).fits) (Some c.in-Some.place) c.in-Some.ensures in
    record {
      answer = refused_order whole (length c.args.memory.now) c.if-count-memory.false c.in-Some.place place ∙ ap (λ (e : Refusal). Some e) (sym c.at.ensures);
      memory = filled whole c.args.memory.now c.fill.new.memory c.fill.ensures c.if-count-memory.false;
      order = comes_before_decides;
    }

pub returns-in-None : goal.returns-in-None
returns-in-None c =
    let whole = cut c.as_chunks.ensures.back_len c.if-not-is_empty.ensures c.as_chunks.ensures.front c.as_chunks.ensures.front_len in
    let place = judged whole c.args.memory.now c.fill.new.memory c.fill.ensures (λ i. (c.type_inv.bytes i).fits) None c.in-None.ensures in
    record {
      answer = (accepted whole (length c.args.memory.now) c.if-count-memory.false place, c.as_chunks.ensures.front_len);
      memory = filled whole c.args.memory.now c.fill.new.memory c.fill.ensures c.if-count-memory.false;
      order = comes_before_decides;
    }
