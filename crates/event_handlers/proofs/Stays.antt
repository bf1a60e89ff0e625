-- What stays where the gateway comes to rest, and whether the connection is spent.
use Rattle.std.proofs.Common.{◌≡◌, Bool, [], sym, ◌∙◌, ap}
use Rattle.theory_errors.specs.Owing.{must_end_in}
use Rattle.connection_state.specs.Inbound.{Inbound, Outside, told_of}
use Rattle.refinement.specs.View.{View}
use Rattle.refinement.specs.Rest.{told_view, GoesOn}

-- The connection is to end just where the answer is that it is spent.
pub ends_as : (kept seen : View) (exhausted : Bool) → seen ≡ kept → ((outside : Outside) → exhausted ≡ must_end_in (told_of outside seen.inbound)) → (told_view kept).ends ≡ exhausted
ends_as kept seen exhausted same tells =
    let outside : Outside = record { given = []; untaken = kept.untaken } in ap (λ (v : View). must_end_in (told_of outside v.inbound)) (sym same) ∙ sym (tells outside)

-- Whether it goes on follows what came in alone.
pub on_as : (old new : View) → new.inbound ≡ old.inbound → GoesOn new → GoesOn old
on_as old new same on = ap (λ (i : Inbound). must_end_in (told_of (record { given = []; untaken = old.untaken }) i)) (sym same) ∙ on
