use Rattle.std.proofs.Common.{◌≡◌, length, vec_len, sym, ◌∙◌}
use Rattle.std.proofs.lemmas.Result.{IfOk-weaker}
use Rattle.listed.specs.Asking.{sheet_room}
use Rattle.listed.proofs.asking.sheet_memory.Goals as goal

pub returns : goal.returns
returns c =
    IfOk-weaker c.vec.result (λ memory. vec_len memory ≡ sheet_room) (λ memory. length memory.items ≡ sheet_room) (λ memory e. sym memory.ok.0 ∙ e) c.vec.ensures.len
