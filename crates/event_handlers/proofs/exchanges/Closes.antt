-- What the calls come to, by what an upstream's octets, its end or its failure come to.
use Rattle.std.proofs.Common.{◌≡◌, ℕ, ◌<◌, ◌≤◌, Bool, true, false, List, length, Option, Some, None, Result, Ok, Err, refl, sym, ◌∙◌, ap, subst, inl, inr, if◌then◌else◌, [], ◌∷◌}
use Rattle.std.specs.Prelude.{is_some, option_map, IfSome, IfOk, OnOk}
use Rattle.std.proofs.lemmas.Bool.Decides.{eqb_tells}
use Rattle.model.specs.Logs.{Output, Event}
use Rattle.model.specs.Logs.Event.{Up, UpEnd, UpFailed}
use Rattle.model.specs.Setup.{Setup}
use Rattle.model.specs.Tapes.{Entry}
use Rattle.model.specs.Tapes.Entry.{Happened}
use Rattle.model.specs.Causes.Cause.{BadAnswer}
use Rattle.theory_responses.specs.Outbox.{Outbox}
use Rattle.theory_responses.specs.State as theory_responses
use Rattle.theory_responses.specs.State.{Kept, change, answered}
use Rattle.theory_responses.proofs.Keeping.{answered_id, find_changed, find_other, find_without, find_gone}
use Rattle.upstream_response.specs.Waiting.{Answer}
use Rattle.upstream_response.specs.Hearing.{Tells, IsHeard}
use Rattle.upstream_response.specs.declared.answer.Heard.{Heard}
use Rattle.upstream_response.specs.declared.answer.Heard.TheVariants as heard
use Rattle.upstream_response.specs.declared.answer.ResponsePassing.TheVariants.{Streaming}
use Rattle.upstream_response.specs.declared.answer.AnswerEnd.TheVariants as ended
use Rattle.send_queue.specs.Asked.{is_cut_if, is_kept}
use Rattle.send_queue.specs.Changes.{with_box, refilled}
use Rattle.theory_requests.specs.Lines as lines
use Rattle.theory_requests.specs.Lines.{find, is_idle}
use Rattle.theory_requests.specs.Lines.Answer.{Idle}
use Rattle.theory_requests.specs.Lines.Heard.{Finished}
use Rattle.theory_requests.specs.State.{Held, held_of}
use Rattle.streams.specs.Asked.{has, is_active}
use Rattle.upstream_connections.specs.Connections.{Connection, number_of, fresh}
use Rattle.theory.specs.Moves.{Move}
use Rattle.theory.specs.State.{State}
use Rattle.refinement.specs.View.{View, balanced, Leads}
use Rattle.refinement.specs.Rest.{IsAtRest, NoneCut, back_of}
use Rattle.refinement.specs.Bringing.{Course, Brings}
use Rattle.refinement.proofs.Kept.{change_none}
use Rattle.refinement.proofs.Resets.{has_same}
use Rattle.event_handlers.specs.Stopping.{IsCalmed}
use Rattle.event_handlers.specs.Inputs.Input.{OfEvent}
use Rattle.event_handlers.specs.Comings.{ComesFrom}
use Rattle.event_handlers.specs.exchanges.Giving.{replied_to, reset_if, put_if, back_if, given_if, is_cut_then, closed_at, abandoned_if, put_abandoned, IsGivenUp, IsAbandoned}
use Rattle.event_handlers.specs.exchanges.Finishing.{marked_as, verdict_by}
use Rattle.event_handlers.specs.exchanges.Taking.{served_by, left_of, answered_with, AreTaken, IsEndTaken}
use Rattle.event_handlers.proofs.exchanges.Brings as brings
use Rattle.event_handlers.proofs.exchanges.FailedRows.{there}
use Rattle.event_handlers.proofs.exchanges.Fails.{FailsBy}
use Rattle.event_handlers.proofs.exchanges.Hears.{change_as}
use Rattle.event_handlers.proofs.exchanges.Pays.{lost_paid, abandon_paid, active_row, box_kept, lost_over, abandon_over}

-- ---- what calls promise that may be refused memory

-- what follows from what an answer is
pub if_then : {T : Type 0} {E : Type 0} {A : T → Type 0} {B : Type 0} (r : Result T E) → ((x : T) → A x → B) → IfOk r A → OnOk r B
if_then (Ok x) f a = f x a
if_then (Err e) f a = tt

-- ---- connections

-- an open connection, which works for this stream
pub record IsFoundFor (k stream : ℕ) (cs : List Connection) : Type 0 where
  pub connection : Connection
  pub found : find number_of k cs ≡ Some connection
  pub of : stream ≡ connection.live.stream
  pub working : is_idle connection.live.answer ≡ false

-- the stream that one works for
pub found_for : (k stream : ℕ) (cs : List Connection) (served : Option ℕ) → is_some (find number_of k cs) ≡ true → IfSome (find number_of k cs) (λ c. served ≡ served_by c.live) → served ≡ Some stream → IsFoundFor k stream cs
found_for k stream cs served some of is = by (find number_of k cs) refl some of
  where
    working : (c : Connection) (b : Bool) → is_idle c.live.answer ≡ b → Some stream ≡ (if b then None else Some c.live.stream) → (stream ≡ c.live.stream) × (is_idle c.live.answer ≡ false)
    working c true idle none = let no : ◌≡◌ {A = Option ℕ} (Some stream) None = none in cc
    working c false on same = let own : ◌≡◌ {A = Option ℕ} (Some stream) (Some c.live.stream) = same in (cc, on)

    by : (o : Option Connection) → find number_of k cs ≡ o → is_some o ≡ true → IfSome o (λ c. served ≡ served_by c.live) → IsFoundFor k stream cs
    by None there none its = let no : false ≡ true = none in cc
    by (Some c) there one its = let w = working c (is_idle c.live.answer) refl (sym is ∙ its) in record { connection = c; found = there; of = w.0; working = w.1 }

-- one that works for none
pub idle_for : (k : ℕ) (cs : List Connection) (served : Option ℕ) → is_some (find number_of k cs) ≡ true → IfSome (find number_of k cs) (λ c. served ≡ served_by c.live) → served ≡ None → (c : Connection) × (find number_of k cs ≡ Some c) × (c.live.answer ≡ Idle)
idle_for k cs served some of is = by (find number_of k cs) refl some of
  where
    idle : (c : Connection) (a : lines.Answer) → c.live.answer ≡ a → None ≡ (if is_idle a then None else Some c.live.stream) → a ≡ Idle
    idle c lines.Answer.Pending at none = let no : ◌≡◌ {A = Option ℕ} None (Some c.live.stream) = none in cc
    idle c Idle at none = refl
    idle c lines.Answer.Done at none = let no : ◌≡◌ {A = Option ℕ} None (Some c.live.stream) = none in cc

    by : (o : Option Connection) → find number_of k cs ≡ o → is_some o ≡ true → IfSome o (λ c. served ≡ served_by c.live) → (c : Connection) × (find number_of k cs ≡ Some c) × (c.live.answer ≡ Idle)
    by None there none its = let no : false ≡ true = none in cc
    by (Some c) there one its = (c, there, idle c c.live.answer refl (sym is ∙ its))

-- what is so of the connection that works is so of the one that is found
pub found_same : (k stream : ℕ) (cs : List Connection) (it : IsFoundFor k stream cs) (c : Connection) → find number_of k cs ≡ Some c → it.connection ≡ c
found_same k stream cs it c found = let same : ◌≡◌ {A = Option Connection} (Some it.connection) (Some c) = sym it.found ∙ found in let this : it.connection ≡ c = cc in this

pub if_found : (k stream : ℕ) (cs : List Connection) → IsFoundFor k stream cs → IfSome (find number_of k cs) (λ c. stream ≡ c.live.stream)
if_found k stream cs it = subst (λ (o : Option Connection). IfSome o (λ c. stream ≡ c.live.stream)) (sym it.found) it.of

-- ---- offers

-- an outbox that is filled with what it has
refilled_same : (id : ℕ) (o : theory_responses.State) (x : Kept) → theory_responses.find id o.kept ≡ Some x → refilled id x.box o ≡ o
refilled_same id o x found = ap (λ (ks : List Kept). let n : theory_responses.State = record { kept = ks; last = o.last } in n) (change_as id (with_box x.box) (λ y. y) o.kept x found refl ∙ change_none id o.kept)

-- a reset that isn't owed isn't owed where an outbox is filled
pub filled_none_cut : (id : ℕ) (box : Outbox) (o : theory_responses.State) (x : Kept) → theory_responses.find id o.kept ≡ Some x → NoneCut o → NoneCut (refilled id box o)
filled_none_cut id box o x found none j y is = elim (eqb_tells id j) [
  | inl same ↦ (
      let now : Some (with_box box x) ≡ Some y = sym (find_changed id (with_box box) o.kept (λ z. refl) ∙ ap (option_map (with_box box)) found) ∙ ap (λ n. theory_responses.find n (change id (with_box box) o.kept)) same.1 ∙ is in
      let it : with_box box x ≡ y = cc in
      ap (λ (z : Kept). z.cut) (sym it) ∙ none id x found
      )
  | inr apart ↦ none j y (sym (find_other id j (with_box box) o.kept (λ z. refl) apart.1) ∙ is)
]

-- none is owed where the gateway gave the stream up
given_none_cut : (stream : ℕ) (kept : View) → NoneCut kept.offers → (b : Bool) → is_cut_then stream kept ≡ b → NoneCut (reset_if b stream (replied_to stream kept)).offers
given_none_cut stream kept none true is j y there = elim (eqb_tells stream j) [
  | inl same ↦ (let no : ◌≡◌ {A = Option Kept} None (Some y) = sym (find_gone stream (change stream (answered BadAnswer) kept.offers.kept)) ∙ ap (λ n. theory_responses.find n (theory_responses.without stream (change stream (answered BadAnswer) kept.offers.kept))) same.1 ∙ there in cc)
  | inr apart ↦ none j y (sym (find_without stream j (change stream (answered BadAnswer) kept.offers.kept) apart.1 ∙ find_other stream j (answered BadAnswer) kept.offers.kept (answered_id BadAnswer) apart.1) ∙ there)
]
given_none_cut stream kept none false is j y there = elim (eqb_tells stream j) [
  | inl same ↦ ap is_cut_if (sym there ∙ ap (λ n. theory_responses.find n (change stream (answered BadAnswer) kept.offers.kept)) (sym same.1)) ∙ is
  | inr apart ↦ none j y (sym (find_other stream j (answered BadAnswer) kept.offers.kept (answered_id BadAnswer) apart.1) ∙ there)
]

pub given_up_none_cut : (stream : ℕ) (old new : View) (outputs put_out : List Output) (back : Option ℕ) → NoneCut old.offers → IsGivenUp stream old outputs back new put_out → NoneCut new.offers
given_up_none_cut stream old new outputs put_out back none given = subst (λ (v : View). NoneCut v.offers) (sym given.kept) (given_none_cut stream old none (is_cut_then stream old) refl)

pub abandoned_none_cut : (k stream : ℕ) (old new : View) (outputs put_out : List Output) (back : ℕ) → NoneCut old.offers → IsAbandoned k stream old outputs back new put_out → NoneCut new.offers
abandoned_none_cut k stream old new outputs put_out back none given = subst (λ (v : View). NoneCut v.offers) (sym given.kept) (by (is_cut_then stream old) refl)
  where
    by : (b : Bool) → is_cut_then stream old ≡ b → NoneCut (abandoned_if b k stream old).offers
    by true is = given_none_cut stream old none true is
    by false is = given_none_cut stream old none false is

-- ---- streams

-- streams are numbered as they were
given_same : (b : Bool) (stream id : ℕ) (kept : View) → has (reset_if b stream (replied_to stream kept)).inbound.rows id ≡ has kept.inbound.rows id
given_same true stream id kept = has_same stream id _ (replied_to stream kept).inbound.rows ∙ has_same stream id _ kept.inbound.rows
given_same false stream id kept = has_same stream id _ kept.inbound.rows

pub given_up_numbered : (stream : ℕ) (old new : View) (outputs put_out : List Output) (back : Option ℕ) → ((id : ℕ) → has old.inbound.rows id ≡ true → id < 2147483648) → IsGivenUp stream old outputs back new put_out → (id : ℕ) → has new.inbound.rows id ≡ true → id < 2147483648
given_up_numbered stream old new outputs put_out back few given id is =
    few id (sym (ap (λ (v : View). has v.inbound.rows id) given.kept ∙ given_same (is_cut_then stream old) stream id old) ∙ is)

pub abandoned_numbered : (k stream : ℕ) (old new : View) (outputs put_out : List Output) (back : ℕ) → ((id : ℕ) → has old.inbound.rows id ≡ true → id < 2147483648) → IsAbandoned k stream old outputs back new put_out → (id : ℕ) → has new.inbound.rows id ≡ true → id < 2147483648
abandoned_numbered k stream old new outputs put_out back few given id is =
    few id (sym (ap (λ (v : View). has v.inbound.rows id) given.kept ∙ by (is_cut_then stream old)) ∙ is)
  where
    by : (b : Bool) → has (abandoned_if b k stream old).inbound.rows id ≡ has old.inbound.rows id
    by true = given_same true stream id old
    by false = given_same false stream id old

-- ---- what comes of an upstream

-- so many octets go back
abbrev pub count_of : Option ℕ → ℕ
count_of None = 0
count_of (Some count) = count

module _ (kept : View) (rest : IsAtRest kept) (k : ℕ) (outputs : List Output) (setup : Setup) (stream : ℕ) (it : IsFoundFor k stream kept.upstreams.live) where
  -- a connection that is found is the one that works
  its : (c : Connection) → find number_of k kept.upstreams.live ≡ Some c → (stream ≡ c.live.stream) × (is_idle c.live.answer ≡ false)
  its c found = subst (λ (x : Connection). (stream ≡ x.live.stream) × (is_idle x.live.answer ≡ false)) (found_same k stream kept.upstreams.live it c found) (it.of, it.working)

  -- where a stream is given up with an answer that failed
  abandoned : (c : Connection) (found : find number_of k kept.upstreams.live ≡ Some c) (entry : Entry) (answer : Answer) (middle new : View) (put_out : List Output) (count : ℕ) → middle ≡ answered_with k answer kept.offers kept → stream < 2147483648
      → IsAbandoned k stream middle outputs count new put_out
      → ((run : List Move) (s : State) → Leads setup run kept balanced s → FailsBy setup kept run s k c.live.stream outputs entry)
      → Brings setup kept balanced outputs entry new (back_of count) put_out
  abandoned c found entry answer middle new put_out count is few given fails run s leads =
      let of = (its c found).0 in
      let own : IsAbandoned k c.live.stream (answered_with k answer kept.offers kept) outputs count new put_out =
      subst (λ (v : View). IsAbandoned k c.live.stream v outputs count new put_out) is (subst (λ n. IsAbandoned k n middle outputs count new put_out) of given) in
      subst (λ (v : View). Course setup run s outputs entry v (back_of count) put_out) (sym own.kept)
      (subst (λ (o : List Output). Course setup run s outputs entry (abandoned_if (is_cut_then c.live.stream kept) k c.live.stream (answered_with k answer kept.offers kept)) (back_of count) o) (sym own.puts)
      (subst (λ n. Course setup run s outputs entry (abandoned_if (is_cut_then c.live.stream kept) k c.live.stream (answered_with k answer kept.offers kept)) (back_of n) (put_abandoned (is_cut_then c.live.stream kept) k c.live.stream outputs)) (sym (own.back_is ∙ same_back (is_cut_then c.live.stream kept)))
      (abandon_paid setup kept rest run s leads k c found (its c found).1 (subst (λ n. n < 2147483648) of few) own.few outputs entry answer (fails run s leads))))
    where
      same_back : (b : Bool) → back_if b c.live.stream (answered_with k answer kept.offers kept) ≡ back_if b c.live.stream kept
      same_back true = refl
      same_back false = refl

  -- or the connection to the client was ended in place of the reset
  abandoned_over : (c : Connection) (found : find number_of k kept.upstreams.live ≡ Some c) (event : Event) (answer : Answer) (middle : View) (p : List Output) → middle ≡ answered_with k answer kept.offers kept
      → (is_cut_then stream middle ≡ true) × IsCalmed (replied_to stream middle) outputs p
      → ((run : List Move) (s : State) → Leads setup run kept balanced s → FailsBy setup kept run s k c.live.stream outputs (Happened event))
      → ComesFrom setup kept balanced outputs (OfEvent event ∷ []) balanced None p
  abandoned_over c found event answer middle p is stopped fails run s leads =
      let own : (is_cut_then c.live.stream (answered_with k answer kept.offers kept) ≡ true) × IsCalmed (replied_to c.live.stream (answered_with k answer kept.offers kept)) outputs p =
      subst (λ (v : View). (is_cut_then c.live.stream v ≡ true) × IsCalmed (replied_to c.live.stream v) outputs p) is (subst (λ n. (is_cut_then n middle ≡ true) × IsCalmed (replied_to n middle) outputs p) (its c found).0 stopped) in
      abandon_over setup kept rest run s leads k c found (its c found).1 outputs (Happened event) (OfEvent event) refl p own.0 answer (fails run s leads) own.1

  module _ (octets : List ℕ) (short : length octets ≤ 65536) where
    pub goes_on : (new : View) → AreTaken kept k octets heard.GoesOn new → Brings setup kept balanced outputs (Happened (Up k octets)) new balanced outputs
    goes_on new taken run s leads =
        let h = taken.hears in
        subst (λ (v : View). Course setup run s outputs (Happened (Up k octets)) v balanced outputs) (sym (taken.is ∙ ap (λ (o : theory_responses.State). answered_with k taken.answer o kept) h.is))
        (brings.octets_on setup kept rest run s leads k taken.connection taken.found (its taken.connection taken.found).1 outputs octets short false taken.answer h.stream h.box h.found h.hears refl)

    -- its response is whole, of which this was heard
    whole : (h : Heard) (tells : (old new : Answer) (box box' : Outbox) → IsHeard old octets box h new box' → Tells old octets box true new box') (same : (answer : Answer) → left_of h answer ≡ fresh false Streaming) (middle : View) (taken : AreTaken kept k octets h middle)
        (w : lines.Heard) → brings.IsVerdict setup.keep (held_of taken.connection.live.stream kept.upstreams.held) taken.connection.answer octets w → Brings setup kept balanced outputs (Happened (Up k octets)) (marked_as setup.most_idle k w middle) balanced outputs
    whole h tells same middle taken w verdict run s leads =
        let x = taken.hears in
        subst (λ (v : View). Course setup run s outputs (Happened (Up k octets)) (marked_as setup.most_idle k w v) balanced outputs)
        (sym (taken.is ∙ ap (λ (a : Answer). answered_with k a taken.offers kept) (same taken.answer) ∙ ap (λ (o : theory_responses.State). answered_with k (fresh false Streaming) o kept) x.is))
        (brings.octets_whole setup kept rest run s leads k taken.connection taken.found (its taken.connection taken.found).1 outputs octets short true taken.answer x.stream x.box x.found (tells taken.connection.answer taken.answer x.stream.box x.box x.hears) refl w verdict)

    pub keepable : (middle : View) → AreTaken kept k octets heard.Keepable middle → (w : lines.Heard) → w ≡ verdict_by setup.keep (held_of stream kept.upstreams.held) → Brings setup kept balanced outputs (Happened (Up k octets)) (marked_as setup.most_idle k w middle) balanced outputs
    keepable middle taken w is =
        whole heard.Keepable (λ old new box box' x. x.0) (λ answer. refl) middle taken w
        (subst (brings.IsVerdict setup.keep (held_of taken.connection.live.stream kept.upstreams.held) taken.connection.answer octets) (sym (is ∙ ap (λ n. verdict_by setup.keep (held_of n kept.upstreams.held)) (its taken.connection taken.found).0))
        (by setup.keep (held_of taken.connection.live.stream kept.upstreams.held)))
      where
        by : (keep : Bool) (held : Option Held) → brings.IsVerdict keep held taken.connection.answer octets (verdict_by keep held)
        by true None = (refl, refl, taken.hears.hears.1)
        by true (Some h) = inr (inl (h, refl))
        by false None = inl refl
        by false (Some h) = inl refl

    pub finished : (middle : View) → AreTaken kept k octets heard.Finished middle → Brings setup kept balanced outputs (Happened (Up k octets)) (marked_as 0 k Finished middle) balanced outputs
    finished middle taken = whole heard.Finished (λ old new box box' x. x.0) (λ answer. refl) middle taken Finished (inr (inr taken.hears.hears.1))

    pub fails : (middle new : View) (put_out : List Output) (count : ℕ) → AreTaken kept k octets heard.Failed middle → stream < 2147483648 → IsAbandoned k stream middle outputs count new put_out → Brings setup kept balanced outputs (Happened (Up k octets)) new (back_of count) put_out
    fails middle new put_out count taken few given =
        let h = taken.hears in
        let same : taken.offers ≡ kept.offers = h.is ∙ ap (λ (b : Outbox). refilled taken.connection.live.stream b kept.offers) h.hears.0 ∙ refilled_same taken.connection.live.stream kept.offers h.stream h.found in
        abandoned taken.connection taken.found (Happened (Up k octets)) (fresh false Streaming) middle new put_out count
        (taken.is ∙ ap (λ (o : theory_responses.State). answered_with k (fresh false Streaming) o kept) same) few given
        (λ run s leads. brings.octets_fail setup kept rest run s leads k taken.connection taken.found (its taken.connection taken.found).1 outputs octets short h.hears.1)

    pub fails_over : (middle : View) (p : List Output) → AreTaken kept k octets heard.Failed middle → (is_cut_then stream middle ≡ true) × IsCalmed (replied_to stream middle) outputs p → ComesFrom setup kept balanced outputs (OfEvent (Up k octets) ∷ []) balanced None p
    fails_over middle p taken stopped =
        let h = taken.hears in
        let same : taken.offers ≡ kept.offers = h.is ∙ ap (λ (b : Outbox). refilled taken.connection.live.stream b kept.offers) h.hears.0 ∙ refilled_same taken.connection.live.stream kept.offers h.stream h.found in
        abandoned_over taken.connection taken.found (Up k octets) (fresh false Streaming) middle p
        (taken.is ∙ ap (λ (o : theory_responses.State). answered_with k (fresh false Streaming) o kept) same) stopped
        (λ run s leads. brings.octets_fail setup kept rest run s leads k taken.connection taken.found (its taken.connection taken.found).1 outputs octets short h.hears.1)

  -- ---- the end

  pub completes : (middle : View) → IsEndTaken kept k ended.Complete middle → Brings setup kept balanced outputs (Happened (UpEnd k)) (marked_as 0 k Finished middle) balanced outputs
  completes middle taken run s leads =
      let h = taken.ends in
      subst (λ (v : View). Course setup run s outputs (Happened (UpEnd k)) (marked_as 0 k Finished v) balanced outputs)
      (sym (taken.is ∙ ap (λ (o : theory_responses.State). answered_with k (fresh false Streaming) o kept) h.is))
      (brings.end_brings setup kept rest run s leads k taken.connection taken.found (its taken.connection taken.found).1 outputs h.stream h.box h.found h.ends.0 h.ends.1)

  pub cut_short : (middle new : View) (put_out : List Output) (count : ℕ) → IsEndTaken kept k ended.Short middle → stream < 2147483648 → IsAbandoned k stream middle outputs count new put_out → Brings setup kept balanced outputs (Happened (UpEnd k)) new (back_of count) put_out
  cut_short middle new put_out count taken few given =
      let h = taken.ends in
      let same : taken.offers ≡ kept.offers = h.is ∙ ap (λ (b : Outbox). refilled taken.connection.live.stream b kept.offers) h.ends.1 ∙ refilled_same taken.connection.live.stream kept.offers h.stream h.found in
      abandoned taken.connection taken.found (Happened (UpEnd k)) (fresh false Streaming) middle new put_out count
      (taken.is ∙ ap (λ (o : theory_responses.State). answered_with k (fresh false Streaming) o kept) same) few given
      (λ run s leads. brings.end_fails setup kept rest run s leads k taken.connection taken.found (its taken.connection taken.found).1 outputs h.ends.0)

  pub cut_short_over : (middle : View) (p : List Output) → IsEndTaken kept k ended.Short middle → (is_cut_then stream middle ≡ true) × IsCalmed (replied_to stream middle) outputs p → ComesFrom setup kept balanced outputs (OfEvent (UpEnd k) ∷ []) balanced None p
  cut_short_over middle p taken stopped =
      let h = taken.ends in
      let same : taken.offers ≡ kept.offers = h.is ∙ ap (λ (b : Outbox). refilled taken.connection.live.stream b kept.offers) h.ends.1 ∙ refilled_same taken.connection.live.stream kept.offers h.stream h.found in
      abandoned_over taken.connection taken.found (UpEnd k) (fresh false Streaming) middle p
      (taken.is ∙ ap (λ (o : theory_responses.State). answered_with k (fresh false Streaming) o kept) same) stopped
      (λ run s leads. brings.end_fails setup kept rest run s leads k taken.connection taken.found (its taken.connection taken.found).1 outputs h.ends.0)

  -- ---- the failure

  pub is_gone : (new : View) (put_out : List Output) (waited : Option ℕ) (count : ℕ) → stream < 2147483648 → IsGivenUp stream (closed_at k kept) outputs waited new put_out → count ≡ count_of waited → Brings setup kept balanced outputs (Happened (UpFailed k)) new (back_of count) put_out
  is_gone new put_out waited count few given counted run s leads =
      let own : IsGivenUp it.connection.live.stream (closed_at k kept) outputs waited new put_out = subst (λ n. IsGivenUp n (closed_at k kept) outputs waited new put_out) it.of given in
      subst (λ (v : View). Course setup run s outputs (Happened (UpFailed k)) v (back_of count) put_out) (sym own.kept)
      (subst (λ (o : List Output). Course setup run s outputs (Happened (UpFailed k)) (reset_if (is_cut_then it.connection.live.stream kept) it.connection.live.stream (replied_to it.connection.live.stream (closed_at k kept))) (back_of count) o) (sym own.puts)
      (subst (λ n. Course setup run s outputs (Happened (UpFailed k)) (reset_if (is_cut_then it.connection.live.stream kept) it.connection.live.stream (replied_to it.connection.live.stream (closed_at k kept))) (back_of n) (put_if (is_cut_then it.connection.live.stream kept) it.connection.live.stream outputs)) (sym (counted ∙ ap count_of own.back_is ∙ same_back it.connection.live.stream (is_cut_then it.connection.live.stream kept)))
      (lost_paid setup kept rest run s leads k it.connection it.found it.working (subst (λ n. n < 2147483648) it.of few) own.few outputs (Happened (UpFailed k)) (brings.failure_brings setup kept rest run s leads k it.connection it.found it.working outputs))))
    where
      same_back : (id : ℕ) (b : Bool) → count_of (given_if b id (closed_at k kept)) ≡ back_if b id kept
      same_back id true = refl
      same_back id false = refl

  pub is_gone_over : (p : List Output) → (is_cut_then stream (closed_at k kept) ≡ true) × IsCalmed (replied_to stream (closed_at k kept)) outputs p → ComesFrom setup kept balanced outputs (OfEvent (UpFailed k) ∷ []) balanced None p
  is_gone_over p stopped run s leads =
      let own : (is_cut_then it.connection.live.stream (closed_at k kept) ≡ true) × IsCalmed (replied_to it.connection.live.stream (closed_at k kept)) outputs p = subst (λ n. (is_cut_then n (closed_at k kept) ≡ true) × IsCalmed (replied_to n (closed_at k kept)) outputs p) it.of stopped in
      lost_over setup kept rest run s leads k it.connection it.found it.working outputs (Happened (UpFailed k)) (OfEvent (UpFailed k)) refl p own.0 (brings.failure_brings setup kept rest run s leads k it.connection it.found it.working outputs) own.1

-- ---- the stream of an open connection

module _ (kept : View) (rest : IsAtRest kept) (setup : Setup) (run : List Move) (s : State) (leads : Leads setup run kept balanced s) (k stream : ℕ) (it : IsFoundFor k stream kept.upstreams.live) where
  pub stream_active : is_active kept.inbound.rows stream ≡ true
  stream_active = ap (λ n. is_active kept.inbound.rows n) it.of ∙ active_row setup kept rest run s leads k it.connection it.found it.working

  pub stream_numbered : ((id : ℕ) → has kept.inbound.rows id ≡ true → id < 2147483648) → stream < 2147483648
  stream_numbered few = few stream (there kept.inbound.rows stream stream_active)

  pub stream_kept : is_kept stream kept.offers.kept ≡ true
  stream_kept = ap (λ n. is_kept n kept.offers.kept) it.of ∙ box_kept setup kept rest run s leads k it.connection it.found it.working
