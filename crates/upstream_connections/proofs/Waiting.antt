-- A request that was begun may end, where its head declares no length.
use Rattle.std.proofs.Common.{◌≡◌, ℕ, Bool, true, false, List, [], ◌++◌, Some, None, refl, sym, ap, ◌∙◌, subst}
use Rattle.std.specs.Prelude.{Option, option_map}
use Rattle.model.specs.Http2.{HasLength}
use Rattle.request_rules.specs.Heads.{HeadParts}
use Rattle.h1_writer.specs.Sending.Stage.{Whole}
use Rattle.theory_requests.specs.State.{Way, Held, Due, id_of, held_of, held_at, held_with, with_way, is_whole}
use Rattle.theory_requests.specs.State.Way.{Waiting}
use Rattle.theory_requests.proofs.Lists.{way_of_own, found_key, find_first, find_map}
use Rattle.upstream_connections.specs.Requests.{MayTakeOf}
use Rattle.upstream_connections.specs.Kept.{State, Begins}

-- what is held of a stream is held of it
pub is_held : (id : ℕ) (way : Way) (hs : List Held) → held_of id (held_with id (Some way) hs) ≡ Some (record { id = id; way = way })
is_held id way hs = by (held_of id hs) refl
  where
    by : (o : Option Held) → held_of id hs ≡ o → held_of id (held_at id way o hs) ≡ Some (record { id = id; way = way })
    by None none = find_first id_of id (record { id = id; way = way }) hs refl
    by (Some h) was =
        let own : h.id ≡ id = found_key id_of id hs h was in
        find_map id_of (with_way id way) (λ y. refl) id hs
        ∙ ap (option_map (with_way id way)) was
        ∙ ap Some (way_of_own id way h own)
        ∙ ap (λ n. let o : Option Held = Some (record { id = n; way = way }) in o) own

module _ (old new : State) (id route : ℕ) (keep : Bool) (parts : HeadParts) (due : Due) (b : Begins old id route keep parts false false due new) (none : parts.length ≡ None) where
  pub begun_held : held_of id new.held ≡ Some (record { id = id; way = Waiting route b.text b.stage [] })
  begun_held = ap (λ (s : State). held_of id s.held) b.kept ∙ is_held id (Waiting route b.text b.stage []) old.held

  goes_on : b.stage ≡ Whole → ⊥
  goes_on whole = let clash : true ≡ false = sym (ap is_whole whole) ∙ b.whole in cc

  -- where it is held so, with a body so far
  may_take_with : (body octets : List ℕ) (ends : Bool) (hs : List Held) → held_of id hs ≡ Some (record { id = id; way = Waiting route b.text b.stage body }) → MayTakeOf octets ends (held_of id hs)
  may_take_with body octets ends hs found = subst (MayTakeOf octets ends) (sym found) (λ e. record {
    keep = keep;
    parts = parts;
    sending = b.sending;
    goes_on = goes_on;
    has_length = subst (λ l. HasLength l (body ++ octets)) (sym none) tt;
  })

  pub may_take : (octets : List ℕ) (ends : Bool) (hs : List Held) → held_of id hs ≡ held_of id new.held → MayTakeOf octets ends (held_of id hs)
  may_take octets ends hs same = may_take_with [] octets ends hs (same ∙ begun_held)
