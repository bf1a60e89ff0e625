use Rattle.std.proofs.Common.{◌≡◌, ℕ, List, [], ◌∷◌, ◌++◌, length, false, true, Option, None, sym, subst}
use Rattle.std.specs.List.{concat}
use Rattle.model.specs.Http2.{HasLength}
use Rattle.h1_writer.specs.Sending.{Stage, Sending, HasRoom, piece_of}
use Rattle.request_buffer.specs.Going.{GoesOn}
use Rattle.request_buffer.proofs.Passing.{goes_further}
use Rattle.http1_tests.proofs.requests_tests.a_body_goes_out_in_chunks_as_it_comes.Goals as goal

pub pass-requires-2 : goal.pass-requires-2
pass-requires-2 g c =
    let first : List ℕ = (104 ∷ 101 ∷ 108 ∷ []) in
    let more : List ℕ = (108 ∷ 111 ∷ []) in
    let parts = c.in_ok-request.ensures.0 in
    let declared : parts.length ≡ None = c.in_ok-request.ensures.1 in
    let sending : Sending false parts false c.in_ok-request.request.text [] [] c.in_ok-request.request.stage = c.in_ok-request.ensures.2.1 in
    let on : GoesOn c.in_ok-request.request.stage (104 ∷ 101 ∷ 108 ∷ []) [] false c.in_ok-first.first.items c.pass.new.self = subst (λ (s : Stage). GoesOn s (104 ∷ 101 ∷ 108 ∷ []) [] false c.in_ok-first.first.items c.pass.new.self) c.go-text.ensures.rest c.in_ok-first.ensures in
    goes_further false parts c.in_ok-request.request.text c.in_ok-request.request.stage c.pass.new.self first c.in_ok-first.first.items more [] true sending on
    (subst (λ (o : Option ℕ). HasRoom o (piece_of first) (length more)) (sym declared) tt)
    (λ e. subst (λ (o : Option ℕ). HasLength o (concat (piece_of first) ++ more)) (sym declared) tt)
