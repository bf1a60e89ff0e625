-- A GOAWAY that asks the client to be calm is no part of a response; and where too many octets are untaken something was sent.
use Rattle.std.proofs.Common.{◌≡◌, ℕ, Bool, true, false, ◌&&◌, ◌||◌, ◌==◌, List, [], ◌∷◌, ◌++◌, refl, sym, ◌∙◌, ap, arith}
use Rattle.std.proofs.lemmas.Bool.{ltb-true, eqb-true}
use Rattle.std.specs.Prelude.{drop, bytes_eq}
use Rattle.model.specs.Frames.{Frame, data_kind, headers_kind, continuation_kind, window_update_kind, goaway_kind, goaway, spell_number, enhance_your_calm}
use Rattle.model.specs.Logs.Event.{Client, ClientEnd, ClientTook, Up, UpEnd, UpFailed, UpTook, Drain}
use Rattle.model.specs.Tapes.{Noted, Entry, sent}
use Rattle.model.specs.Tapes.Entry.{Came, Breached, Happened, Sent, Did}
use Rattle.model.specs.Admission.{untaken, is_crowded}
use Rattle.model.specs.Limits.{most_untaken}
use Rattle.model.specs.ErrorClause.{is_passing, is_calming}

-- a GOAWAY is neither, and gives no octets back
pub goaway_control : (last : ℕ) (noted : Noted) → noted.frame ≡ goaway last enhance_your_calm → is_passing noted ≡ false
goaway_control last noted is =
    ap (λ (frame : Frame). frame.kind == data_kind || frame.kind == headers_kind || frame.kind == continuation_kind || frame.kind == window_update_kind) is

pub goaway_calms : (last : ℕ) (frame : Frame) → frame ≡ goaway last enhance_your_calm → is_calming frame ≡ true
goaway_calms last frame is = ap is_calming is

-- nothing is untaken where nothing was sent
none_untaken : (t : List Entry) → sent t ≡ [] → untaken t ≡ 0
none_untaken [] none = refl
none_untaken (Came noted ∷ t) none = none_untaken t none
none_untaken (Breached breach ∷ t) none = none_untaken t none
none_untaken (Happened (Client piece) ∷ t) none = none_untaken t none
none_untaken (Happened ClientEnd ∷ t) none = none_untaken t none
none_untaken (Happened (ClientTook count) ∷ t) none = let zero = none_untaken t none in omega (arith, zero)
none_untaken (Happened (Up k piece) ∷ t) none = none_untaken t none
none_untaken (Happened (UpEnd k) ∷ t) none = none_untaken t none
none_untaken (Happened (UpFailed k) ∷ t) none = none_untaken t none
none_untaken (Happened (UpTook k count) ∷ t) none = none_untaken t none
none_untaken (Happened Drain ∷ t) none = none_untaken t none
none_untaken (Sent noted ∷ t) none = absurd (cc)
none_untaken (Did act ∷ t) none = none_untaken t none

pub crowded_sent : (t : List Entry) → is_crowded t ≡ true → sent t ≡ [] → ⊥
crowded_sent t crowded none =
    let above = ltb-true most_untaken (untaken t) crowded in
    let zero = none_untaken t none in
    omega (arith, above, zero)

-- lists with a first frame that are the same have the same first one, and the same others
pub cons_head : (f g : Frame) (fs gs : List Frame) → f ∷ fs ≡ g ∷ gs → f ≡ g
cons_head f g fs gs same = cc

pub cons_tail : (f g : Frame) (fs gs : List Frame) → f ∷ fs ≡ g ∷ gs → fs ≡ gs
cons_tail f g fs gs same = cc

-- the last of two lists together is the last of the second, where that has one
pub last_of_both : (fs gs hs : List Frame) (last : Frame) → (gs ≡ [] → ⊥) → fs ++ gs ≡ hs ++ last ∷ [] → (newer : List Frame) × (gs ≡ newer ++ last ∷ [])
last_of_both [] gs hs last some same = (hs, same)
last_of_both (f ∷ fs) gs [] last some same = absurd (some (none_behind fs (cons_tail f last (fs ++ gs) [] same)))
  where
    none_behind : (fs : List Frame) → fs ++ gs ≡ [] → gs ≡ []
    none_behind [] none = none
    none_behind (g ∷ fs) none = absurd (cc)
last_of_both (f ∷ fs) gs (h ∷ hs) last some same = last_of_both fs gs hs last some (cons_tail f h (fs ++ gs) (hs ++ last ∷ []) same)

-- a part of a response, and octets given back, are no such GOAWAY
pub passing_calmless : (noted : Noted) → is_passing noted ≡ true → is_calming noted.frame ≡ false
passing_calmless noted passing = cases (noted.frame.kind == goaway_kind) refl
  where
    cases : (b : Bool) → (noted.frame.kind == goaway_kind) ≡ b → is_calming noted.frame ≡ false
    cases false is = ap (λ b. b && bytes_eq (drop 4 noted.frame.payload) (spell_number enhance_your_calm)) is
    cases true is =
        let no : true ≡ false = sym passing ∙ ap (λ k. k == data_kind || k == headers_kind || k == continuation_kind || k == window_update_kind) (eqb-true noted.frame.kind goaway_kind is) in
        absurd (let x : true ≡ false = no in cc)
