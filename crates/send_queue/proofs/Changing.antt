-- How the streams change where the one at a place does.
use Rattle.std.proofs.Common.{◌≡◌, ℕ, ◌<◌, length, Bool, false, List, set, get_or, Result, Ok, Err, refl, sym, ap, ◌∙◌, subst}
use Rattle.std.specs.Prelude.{Option, Some, None, IfOk, IfSome, IfNone, is_some, option_and_then, remove}
use Rattle.std.proofs.lemmas.List.{get_or_default, get_or-set_same}
use Rattle.model.specs.Causes.{Cause}
use Rattle.model.specs.Messages.{Field}
use Rattle.model.specs.ResponseHeads.{Head}
use Rattle.theory_responses.specs.Outbox.{Outbox, Part, part_of}
use Rattle.theory_responses.specs.Outbox.Part.{Trailing}
use Rattle.theory_responses.specs.Outbox.Outbox.{Before, Behind, Over}
use Rattle.theory_responses.specs.State.{Kept, State, blank, find, change, gone, answered, answered_box}
use Rattle.upstream_response.specs.Waiting.{Answer}
use Rattle.upstream_response.specs.Hearing.{IsHeard, IsEnded}
use Rattle.upstream_response.specs.declared.answer.Heard.{Heard}
use Rattle.upstream_response.specs.declared.answer.AnswerEnd.{AnswerEnd}
use Rattle.send_queue.specs.declared.offered.Offered.{Offered}
use Rattle.send_queue.specs.Places.{at, AreRising, IsAt, is_offered, AreTold, IsToldBehind, AreSound}
use Rattle.send_queue.specs.Asked.{is_kept, part_for}
use Rattle.send_queue.specs.Changes.{with_box, refilled, IsHeardFor, IsEndedFor, IsHeadTaken, AreOctetsTaken, AreTrailersTaken, behind_turn, IsHeadGone, AreOctetsGone, AreTrailersGone}
use Rattle.send_queue.proofs.Rising.{find_at, change_at, without_at, rising_changed, rising_without}
use Rattle.send_queue.proofs.OnOffer.{told_set, told_without}

-- what follows of a value follows where there is one
pub if_ok : {X E : Type 0} (P Q : X → Type 0) (r : Result X E) → IfOk r P → ((x : X) → P x → Q x) → IfOk r Q
if_ok P Q (Ok x) is so = so x is
if_ok P Q (Err e) is so = tt

-- a stream is kept just where its place is found
pub kept_is : (id : ℕ) (ks : List Kept) (place : Option ℕ) → AreRising ks → IfSome place (IsAt ks id) → IfNone place (find id ks ≡ None) → is_some place ≡ is_kept id ks
kept_is id ks None rising found absent = sym (ap is_some absent)
kept_is id ks (Some place) rising found absent = sym (ap is_some (find_at id ks place rising found))

-- answered, a stream keeps its id
pub answered_id : (cause : Cause) (k : Kept) → (answered cause k).id ≡ k.id
answered_id cause k = by k.box
  where
    by : (box : Outbox) → (answered_box cause k box).id ≡ k.id
    by (Before interims head body whole) = refl
    by (Behind body whole) = refl
    by Over = refl

-- what is read twice is the same
pub same_read : (ks : List Kept) (place : ℕ) (x y : Kept) → place < length ks → x ≡ get_or ks place x → y ≡ get_or ks place y → x.id ≡ y.id
same_read ks place x y within at_x at_y =
    ap (λ (k : Kept). k.id) (at_x ∙ get_or_default ks place x (blank 0) within ∙ sym (get_or_default ks place y (blank 0) within) ∙ sym at_y)

module _ (s : State) (id place : ℕ) (rising : AreRising s.kept) (is : IsAt s.kept id place) (k : Kept) (read : k ≡ get_or s.kept place k) where
  -- the stream that is read
  pub stands : at s.kept place ≡ k
  stands = get_or_default s.kept place (blank 0) k is.within ∙ sym read

  pub stream_found : find id s.kept ≡ Some k
  stream_found = find_at id s.kept place rising is ∙ ap Some stands

  -- the part that goes next on it
  pub part_here : (most : ℕ) → part_for most id s.kept ≡ part_of most k.box
  part_here most = ap (option_and_then (λ (x : Kept). part_of most x.box)) stream_found

  -- another in its place is it, changed
  pub changed_to : (f : Kept → Kept) (new : Kept) → new ≡ f k → set s.kept place new ≡ change id f s.kept
  changed_to f new changed = ap (set s.kept place) (changed ∙ ap f (sym stands)) ∙ sym (change_at id f s.kept place rising is)

  -- with its id in its place, ids rise
  pub rising_to : (new : Kept) → new.id ≡ k.id → AreRising (set s.kept place new)
  rising_to new same =
      let f : Kept → Kept = λ x. record { id = x.id; box = new.box; cut = new.cut } in
      subst AreRising (sym (changed_to f new (ap (λ n. let it : Kept = record { id = n; box = new.box; cut = new.cut } in it) same))) (rising_changed id f s.kept (λ x. refl) rising)

  -- what is told behind that
  pub sound_to : (o o' : Offered) → AreTold o s.kept → (new again : Kept) (had has : Bool) → had ≡ is_offered k → new.id ≡ k.id → again ≡ get_or (set s.kept place new) place again → has ≡ is_offered again → IsToldBehind o id had has o' → AreSound (set s.kept place new) o'
  sound_to o o' told new again had has was same read_again now behind =
      let its : new.id ≡ (at s.kept place).id = same ∙ ap (λ (x : Kept). x.id) (sym stands) in
      let is_new : again ≡ new = read_again ∙ get_or-set_same s.kept place new again is.within in
      let by_id : IsToldBehind o new.id had has o' = subst (λ n. IsToldBehind o n had has o') (sym (its ∙ is.has_id)) behind in
      let by_had : IsToldBehind o new.id (is_offered (at s.kept place)) has o' = subst (λ b. IsToldBehind o new.id b has o') (was ∙ ap is_offered (sym stands)) by_id in
      let by_has : IsToldBehind o new.id (is_offered (at s.kept place)) (is_offered new) o' = subst (λ b. IsToldBehind o new.id (is_offered (at s.kept place)) b o') (now ∙ ap is_offered is_new) by_had in
      record { rising = rising_to new same; told = told_set o s.kept told place new o' is.within its by_has }

  -- and behind its end
  pub sound_without : (o o' : Offered) → AreTold o s.kept → (had : Bool) → had ≡ is_offered k → IsToldBehind o id had false o' → AreSound (remove s.kept place) o'
  sound_without o o' told had was behind = record {
    rising = subst AreRising (without_at id s.kept place rising is) (rising_without id s.kept rising);
    told = told_without o s.kept told place id o' is.within (subst (λ b. IsToldBehind o id b false o') (was ∙ ap is_offered (sym stands)) behind);
  }

  -- with another outbox in its place
  refilled_to : (new : Kept) → new.id ≡ k.id → new.cut ≡ k.cut → record { kept = set s.kept place new; last = s.last } ≡ refilled id new.box s
  refilled_to new same_id same_cut =
      ap (λ (ks : List Kept). let it : State = record { kept = ks; last = s.last } in it)
      (changed_to (with_box new.box) new (ap (λ n. let it : Kept = record { id = n; box = new.box; cut = new.cut } in it) same_id ∙ ap (λ b. let it : Kept = record { id = k.id; box = new.box; cut = b } in it) same_cut))

  pub heard_to : (new : Kept) (answer answer' : Answer) (octets : List ℕ) (heard : Heard) → new.id ≡ k.id → new.cut ≡ k.cut → IsHeard answer octets k.box heard answer' new.box → IsHeardFor s id answer octets heard answer' (record { kept = set s.kept place new; last = s.last })
  heard_to new answer answer' octets heard same_id same_cut hears = record { stream = k; found = stream_found; box = new.box; hears = hears; is = refilled_to new same_id same_cut }

  pub ended_to : (new : Kept) (answer : Answer) (ended : AnswerEnd) → new.id ≡ k.id → new.cut ≡ k.cut → IsEnded answer k.box ended new.box → IsEndedFor s id answer ended (record { kept = set s.kept place new; last = s.last })
  ended_to new answer ended same_id same_cut ends = record { stream = k; found = stream_found; box = new.box; ends = ends; is = refilled_to new same_id same_cut }

  -- with the next part gone in its place
  pub gone_to : (new : Kept) (part : Part) → new ≡ gone part k → record { kept = set s.kept place new; last = id } ≡ behind_turn id part s
  gone_to new part went = ap (λ (ks : List Kept). let it : State = record { kept = ks; last = id } in it) (changed_to (gone part) new went)

  pub head_gone_to : (new : Kept) (head : Head) → IsHeadTaken k head new → IsHeadGone s id head (record { kept = set s.kept place new; last = id })
  head_gone_to new head taken = record { part = taken.part; next = λ most. part_here most ∙ taken.next most; is_head = taken.is_head; is = gone_to new taken.part taken.is }

  pub octets_gone_to : (new : Kept) (most : ℕ) → AreOctetsTaken k most new → AreOctetsGone s id most (record { kept = set s.kept place new; last = id })
  octets_gone_to new most taken = record { part = taken.part; next = part_here most ∙ taken.next; is = gone_to new taken.part taken.is }

  pub trailers_gone_to : (new : Kept) (trailers : List Field) → AreTrailersTaken k trailers new → AreTrailersGone s id trailers (record { kept = set s.kept place new; last = id })
  trailers_gone_to new trailers taken = record { next = λ most. part_here most ∙ taken.next most; can_trail = taken.can_trail; is = gone_to new (Trailing trailers) taken.is }
