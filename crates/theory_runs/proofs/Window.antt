-- Another end of the run: the client's settings leave streams a window of one octet, so that the response waits behind its first;
-- settings that raise it let it go on.
use Rattle.std.proofs.Common.{◌≡◌, ℕ, ◌==◌, true, false, List, [], ◌∷◌, Some, refl, subst, inl, inr, arith}
use Rattle.std.proofs.lemmas.Bool.{eqb-true}
use Rattle.std.specs.Prelude.{codes, negsuc}
use Rattle.model.specs.Messages.Item.{Content}
use Rattle.model.specs.Frames.{Frame, setting, settings_ack}
use Rattle.model.specs.Tables.{total_size}
use Rattle.model.specs.Logs.Act.{Close}
use Rattle.model.specs.Tapes.{Noted}
use Rattle.model.specs.Tapes.Entry.{Came, Sent, Did}
use Rattle.theory_errors.specs.Summary.{Stream as Told}
use Rattle.theory_errors.specs.Book.{Ledger}
use Rattle.theory_errors.specs.Rows.{Row}
use Rattle.theory_errors.specs.Rows.Slot.{Live, Over}
use Rattle.theory_responses.specs.Outbox.{silent}
use Rattle.theory_responses.specs.Outbox.Outbox.{Before, Behind}
use Rattle.theory_responses.specs.Outbox.Part.{Octets}
use Rattle.theory_responses.specs.State.{Kept}
use Rattle.theory_receive_windows.specs.State.{}
use Rattle.theory_header_tables.proofs.Requests.{decoded}
use Rattle.theory_requests.specs.Lines.Answer.{Done, Pending}
use Rattle.theory.specs.Moves.{Decision, Move}
use Rattle.theory.specs.Moves.Addition.{Nothing}
use Rattle.theory.specs.Moves.Decision.{Takes, Goes, Sends, Acts}
use Rattle.theory.specs.Moves.Move.{Does, Settles}
use Rattle.theory.specs.State.{State, tape_of}
use Rattle.theory.specs.Rule.{MayDo, Rests, RestsBehind}
use Rattle.theory.specs.Steps.{told_by, Stands, next}
use Rattle.theory_runs.proofs.Steps.{goes, settles, rests}
use Rattle.theory_runs.proofs.Greeting.{setup, frame, plain, never, none_kept}
use Rattle.theory_runs.proofs.Request.{forwarded, one_whole, only_one}
use Rattle.theory_runs.proofs.Answer.{answer_head, encoded, head_out, heard_decision, head_decision, one, ledger_with, at_forwarded, forwarded_leads, forwarded_rest, each_one, answer_encoded}

-- ---- the moves

-- settings with a first size of streams' windows
abbrev pub sizes : ℕ → Noted
sizes size = plain (frame 4 0 0 (setting 4 size))

abbrev pub lower : Decision
lower = Takes (sizes 1) decoded Nothing

abbrev pub raise : Decision
raise = Takes (sizes 10) decoded Nothing

-- their acknowledgement, before a block of the gateway and behind it
abbrev pub ack_first : Decision
ack_first = Sends (plain settings_ack) encoded

-- the octets of the body, one by one
abbrev pub h_out : Noted
h_out = plain (frame 0 0 1 (codes "h"))

abbrev pub i_out : Noted
i_out = plain (frame 0 1 1 (codes "i"))

abbrev pub h_decision : Decision
h_decision = Goes h_out (Content (codes "h") false) (Octets (codes "h") false) encoded

abbrev pub i_decision : Decision
i_decision = Goes i_out (Content (codes "i") true) (Octets (codes "i") true) encoded

abbrev pub lowered : List Move
lowered = Does ack_first ∷ Does lower ∷ forwarded

abbrev pub begun : List Move
begun = Does head_decision ∷ Does (Acts (Close 1)) ∷ Does heard_decision ∷ lowered

abbrev pub waits : List Move
waits = Settles ∷ Does h_decision ∷ begun

abbrev pub raised : List Move
raised = Does ack_first ∷ Does raise ∷ waits

abbrev pub gone_on : List Move
gone_on = Settles ∷ Does i_decision ∷ raised

-- the tapes, up to where it waits, and behind that
pub waits_tape : tape_of waits ≡ Sent h_out ∷ Sent head_out ∷ Did (Close 1) ∷ tape_of (Does heard_decision ∷ Does ack_first ∷ Does lower ∷ forwarded)
waits_tape = refl

pub gone_on_tape : tape_of gone_on ≡ Sent i_out ∷ Sent (plain settings_ack) ∷ Came (sizes 10) ∷ tape_of waits
gone_on_tape = refl

-- ---- what is kept behind each

-- the ledger behind settings with this first size
abbrev pub ledger_sized : ℕ → List Frame → Row → ℕ → ℕ → Ledger
ledger_sized size queue row window untaken = record {
  book = record (ledger_with row window untaken).book { first_size = size; last = 0 };
  queue = queue;
}

-- stream 1 once its first octet went
abbrev pub sent_one : Told
sent_one = record (one true) { balance = negsuc 0 }

abbrev pub at_lowered : State
at_lowered = record at_forwarded {
  ledger = ledger_sized 1 (settings_ack ∷ []) (record { id = 1; slot = Live (one false) }) 65535 30;
  offers = record at_forwarded.offers { kept = record { id = 1; box = silent; cut = false } ∷ [] };
  windows = record at_forwarded.windows { settled = false };
}

abbrev pub at_acked : State
at_acked = record at_lowered {
  ledger = ledger_sized 1 [] (record { id = 1; slot = Live (one false) }) 65535 39;
  offers = at_lowered.offers;
  windows = at_lowered.windows;
}

-- what is kept of the response
abbrev pub whole : Kept
whole = record { id = 1; box = Before [] (Some answer_head) (codes "hi") (Some []); cut = false }

abbrev pub behind_head : Kept
behind_head = record { id = 1; box = Behind (codes "hi") (Some []); cut = false }

-- its last octet
abbrev pub last_left : Kept
last_left = record { id = 1; box = Behind (codes "i") (Some []); cut = false }

abbrev pub at_heard : State
at_heard = record at_acked {
  offers = record at_acked.offers { kept = whole ∷ [] };
  requests = record at_acked.requests { live = record { k = 1; route = 0; stream = 1; answer = Done } ∷ [] };
}

abbrev pub at_closed : State
at_closed = record at_heard {
  requests = record at_heard.requests { live = [] };
  windows = at_heard.windows;
}

abbrev pub at_begun : State
at_begun = record at_closed {
  ledger = ledger_sized 1 [] (record { id = 1; slot = Live (one true) }) 65535 52;
  offers = record { kept = behind_head ∷ []; last = 1 };
  tables = record at_closed.tables { encoding = record at_closed.tables.encoding { table = encoded } };
  windows = at_closed.windows;
}

abbrev pub at_one_out : State
at_one_out = record at_begun {
  ledger = ledger_sized 1 [] (record { id = 1; slot = Live sent_one }) 65534 62;
  offers = record { kept = last_left ∷ []; last = 1 };
  windows = at_begun.windows;
}

abbrev pub at_waits : State
at_waits = next setup at_one_out Settles

abbrev pub at_raised : State
at_raised = record at_waits {
  ledger = ledger_sized 10 (settings_ack ∷ []) (record { id = 1; slot = Live sent_one }) 65534 62;
  offers = record at_waits.offers { kept = last_left ∷ [] };
  windows = record at_waits.windows { settled = false };
}

abbrev pub at_acked_again : State
at_acked_again = record at_raised {
  ledger = ledger_sized 10 [] (record { id = 1; slot = Live sent_one }) 65534 71;
  offers = at_raised.offers;
  windows = at_raised.windows;
}

abbrev pub at_gone_on : State
at_gone_on = record at_acked_again {
  ledger = ledger_sized 10 [] (record { id = 1; slot = Over false }) 65533 81;
  offers = record { kept = []; last = 1 };
  windows = at_acked_again.windows;
}

-- ---- each may come

lower_may : MayDo setup (told_by at_forwarded) (told_by at_lowered) at_forwarded lower
unfolding total_size
lower_may = record {
  rests = λ e. forwarded_rest;
  conduct = record { allowed = record { open_yet = refl; turn = record { nothing = refl; none_begun = refl; goes_on = refl } }; fit = λ fine completes. never completes };
  offer = (forwarded_rest.flushed, refl, refl);
  in_turn = tt;
  request = record { open_yet = refl; may = record { nothing = refl; none_done = refl; goes_on = refl } };
  additions = refl;
  calls = λ so. absurd (let no : false ≡ true = so in cc);
  table = record { is_noted = refl };
  window = record { nothing = forwarded_rest.given_back refl; goes_on = refl; opens_it = refl; lives = λ e. never e; over_with_it = refl };
}

ack_may : MayDo setup (told_by at_lowered) (told_by at_acked) at_lowered ack_first
unfolding total_size
ack_may = record {
  rests = λ e. never e;
  conduct = record { allowed = record { open_yet = refl; turn = inl (record { front = refl; control = refl; owing = refl; calm = refl }) }; fit = refl };
  offer = record { no_block = refl; no_data = refl };
  in_turn = λ e. never e;
  request = record { open_yet = refl; may = inl refl };
  additions = tt;
  calls = λ so. absurd (let no : false ≡ true = so in cc);
  table = record { together = refl; is_given = refl };
  window = record { kind = refl; over_with_it = refl };
}

acked_rest : Rests (told_by at_acked) at_acked
acked_rest = record {
  conduct = record { nothing = refl; none_begun = refl; ended = λ e. never e };
  flushed = record { none_cut = λ low stream kept found. one_whole (1 == stream) (record { id = 1; box = silent; cut = false }) kept refl found; none_ready = λ low. refl };
  served = record { nothing = refl; none_done = refl; ended = λ e. never e };
  read = refl;
  given_back = λ open_yet. record { settled = refl; shared = refl; own = λ stream active goes_on. subst (λ (id : ℕ). (at_acked.windows.row id).debt ≡ 0) (eqb-true 1 stream (only_one (1 == stream) _ active)) refl };
}

heard_may : MayDo setup (told_by at_acked) (told_by at_heard) at_acked heard_decision
unfolding total_size
heard_may = record {
  rests = λ e. acked_rest;
  conduct = record { allowed = record { open_yet = refl; turn = record { nothing = refl; none_begun = refl; goes_on = refl } }; fit = λ e. never e };
  offer = (acked_rest.flushed, record { is_given = refl; active = refl; no_cause = refl }, refl);
  in_turn = tt;
  request = record { open_yet = refl; may = (record { nothing = refl; none_done = refl; goes_on = refl }, tt, (record { k = 1; route = 0; stream = 1; answer = Pending }, refl)) };
  additions = tt;
  calls = λ so. absurd (let no : false ≡ true = so in cc);
  table = tt;
  window = (acked_rest.given_back refl, record { settled = refl; admitted = refl });
}

closed_may : MayDo setup (told_by at_heard) (told_by at_closed) at_heard (Acts (Close 1))
unfolding total_size
closed_may = record {
  rests = λ e. never e;
  conduct = record { allowed = record { open_yet = refl; turn = refl }; fit = tt };
  offer = tt;
  in_turn = tt;
  request = record { open_yet = refl; may = record { nothing = refl; line = record { k = 1; route = 0; stream = 1; answer = Done }; found = refl; why = inl refl } };
  additions = tt;
  calls = λ so. absurd (let no : false ≡ true = so in cc);
  table = tt;
  window = tt;
}

head_may : MayDo setup (told_by at_closed) (told_by at_begun) at_closed head_decision
unfolding total_size
head_may = record {
  rests = λ e. never e;
  conduct = record { allowed = record { open_yet = refl; turn = inr (inl (record { nothing = refl; goes_on = refl; passing = refl; rightly = refl })) }; fit = refl };
  offer = (
    record {
      kept = whole;
      found = refl;
      not_cut = refl;
      next = (refl, tt);
      is = (refl, record { digits = codes "200"; is = refl; three = refl; are_digits = refl; status = refl; no_other = refl }, omega arith);
      turn = inl (record { is_ready = (0, omega arith, refl); above = omega arith; least = λ k lt some. some });
      own = λ is_data. let clash : 1 ≡ 0 = is_data in absurd (omega (arith, clash));
      shared = λ is_data. let clash : 1 ≡ 0 = is_data in absurd (omega (arith, clash));
    },
    record { active = refl; brings = refl },
  );
  in_turn = λ begins. record {
    none_cut = λ stream kept found. one_whole (1 == stream) whole kept refl found;
    turn = inl (record { is_ready = (0, omega arith, refl); above = omega arith; least = λ k lt some. some });
  };
  request = record { open_yet = refl; may = inl refl };
  additions = tt;
  calls = λ so. absurd (let no : false ≡ true = so in cc);
  table = record { together = refl; is_given = answer_encoded };
  window = record { kind = refl; over_with_it = refl };
}

-- one octet goes, which is all that the window takes
h_may : MayDo setup (told_by at_begun) (told_by at_one_out) at_begun h_decision
unfolding total_size
h_may = record {
  rests = λ e. never e;
  conduct = record { allowed = record { open_yet = refl; turn = inr (inl (record { nothing = refl; goes_on = refl; passing = refl; rightly = refl })) }; fit = refl };
  offer = (
    record {
      kept = behind_head;
      found = refl;
      not_cut = refl;
      next = (codes "i", refl, tt, λ e. absurd (let clash : codes "h" ≡ [] = e in cc));
      is = (refl, refl);
      turn = inr (record { is_ready = (0, omega arith, refl); none_above = λ k lt. let one = each_one k lt in omega (arith, one); least = λ k lt. let one = each_one k lt in omega (arith, one) });
      own = λ is_data some. omega arith;
      shared = λ is_data some. omega arith;
    },
    record { active = refl; brings = refl },
  );
  in_turn = λ begins. record {
    none_cut = λ stream kept found. one_whole (1 == stream) behind_head kept refl found;
    turn = inr (record { is_ready = (0, omega arith, refl); none_above = λ k lt. let one = each_one k lt in omega (arith, one); least = λ k lt. let one = each_one k lt in omega (arith, one) });
  };
  request = record { open_yet = refl; may = inl refl };
  additions = tt;
  calls = λ so. absurd (let no : false ≡ true = so in cc);
  table = record { together = refl; is_given = refl };
  window = record { kind = refl; over_with_it = refl };
}

-- it rests though octets wait: no stream is ready
waits_rest : Rests (told_by at_waits) at_waits
waits_rest = record {
  conduct = record { nothing = refl; none_begun = refl; ended = λ e. never e };
  flushed = record { none_cut = λ low stream kept found. one_whole (1 == stream) last_left kept refl found; none_ready = λ low. refl };
  served = record { nothing = refl; none_done = refl; ended = λ e. never e };
  read = refl;
  given_back = λ open_yet. record { settled = refl; shared = refl; own = λ stream active goes_on. subst (λ (id : ℕ). (at_waits.windows.row id).debt ≡ 0) (eqb-true 1 stream (only_one (1 == stream) _ active)) refl };
}

raise_may : MayDo setup (told_by at_waits) (told_by at_raised) at_waits raise
unfolding total_size
raise_may = record {
  rests = λ e. waits_rest;
  conduct = record { allowed = record { open_yet = refl; turn = record { nothing = refl; none_begun = refl; goes_on = refl } }; fit = λ fine completes. never completes };
  offer = (waits_rest.flushed, refl, refl);
  in_turn = tt;
  request = record { open_yet = refl; may = record { nothing = refl; none_done = refl; goes_on = refl } };
  additions = refl;
  calls = λ so. absurd (let no : false ≡ true = so in cc);
  table = record { is_noted = refl };
  window = record { nothing = waits_rest.given_back refl; goes_on = refl; opens_it = refl; lives = λ e. never e; over_with_it = refl };
}

ack_again_may : MayDo setup (told_by at_raised) (told_by at_acked_again) at_raised ack_first
unfolding total_size
ack_again_may = record {
  rests = λ e. never e;
  conduct = record { allowed = record { open_yet = refl; turn = inl (record { front = refl; control = refl; owing = refl; calm = refl }) }; fit = refl };
  offer = record { no_block = refl; no_data = refl };
  in_turn = λ e. never e;
  request = record { open_yet = refl; may = inl refl };
  additions = tt;
  calls = λ so. absurd (let no : false ≡ true = so in cc);
  table = record { together = refl; is_given = refl };
  window = record { kind = refl; over_with_it = refl };
}

i_may : MayDo setup (told_by at_acked_again) (told_by at_gone_on) at_acked_again i_decision
unfolding total_size
i_may = record {
  rests = λ e. never e;
  conduct = record { allowed = record { open_yet = refl; turn = inr (inl (record { nothing = refl; goes_on = refl; passing = refl; rightly = refl })) }; fit = refl };
  offer = (
    record {
      kept = last_left;
      found = refl;
      not_cut = refl;
      next = ([], refl, (refl, refl), λ e. refl);
      is = (refl, refl);
      turn = inr (record { is_ready = (0, omega arith, refl); none_above = λ k lt. let one = each_one k lt in omega (arith, one); least = λ k lt. let one = each_one k lt in omega (arith, one) });
      own = λ is_data some. omega arith;
      shared = λ is_data some. omega arith;
    },
    record { active = refl; brings = refl },
  );
  in_turn = λ begins. record {
    none_cut = λ stream kept found. one_whole (1 == stream) last_left kept refl found;
    turn = inr (record { is_ready = (0, omega arith, refl); none_above = λ k lt. let one = each_one k lt in omega (arith, one); least = λ k lt. let one = each_one k lt in omega (arith, one) });
  };
  request = record { open_yet = refl; may = inl refl };
  additions = tt;
  calls = λ so. absurd (let no : false ≡ true = so in cc);
  table = record { together = refl; is_given = refl };
  window = record { kind = refl; over_with_it = refl };
}

-- ---- so the run is allowed, and rests where it waits and at its end

pub lowered_leads : Stands setup lowered at_acked
lowered_leads = goes setup (Does lower ∷ forwarded) at_lowered (goes setup forwarded at_forwarded forwarded_leads lower at_lowered refl refl lower_may) ack_first at_acked refl refl ack_may

pub begun_leads : Stands setup begun at_begun
begun_leads =
    let first = goes setup lowered at_acked lowered_leads heard_decision at_heard refl refl heard_may in
    let second = goes setup (Does heard_decision ∷ lowered) at_heard first (Acts (Close 1)) at_closed refl refl closed_may in
    goes setup (Does (Acts (Close 1)) ∷ Does heard_decision ∷ lowered) at_closed second head_decision at_begun refl refl head_may

pub waits_leads : Stands setup waits at_waits
waits_leads = settles setup (Does h_decision ∷ begun) at_one_out (goes setup begun at_begun begun_leads h_decision at_one_out refl refl h_may)

pub waits_rests : RestsBehind setup waits
waits_rests = rests setup waits at_waits waits_leads waits_rest

pub gone_on_leads : Stands setup gone_on (next setup at_gone_on Settles)
gone_on_leads =
    let first = goes setup waits at_waits waits_leads raise at_raised refl refl raise_may in
    let second = goes setup (Does raise ∷ waits) at_raised first ack_first at_acked_again refl refl ack_again_may in
    settles setup (Does i_decision ∷ raised) at_gone_on (goes setup raised at_acked_again second i_decision at_gone_on refl refl i_may)

pub gone_on_rests : RestsBehind setup gone_on
gone_on_rests = rests setup gone_on (next setup at_gone_on Settles) gone_on_leads (record {
  conduct = record { nothing = refl; none_begun = refl; ended = λ e. never e };
  flushed = record { none_cut = λ low stream kept found. none_kept found; none_ready = λ low. refl };
  served = record { nothing = refl; none_done = refl; ended = λ e. never e };
  read = refl;
  given_back = λ open_yet. record { settled = refl; shared = refl; own = λ stream active goes_on. subst (λ (id : ℕ). ((next setup at_gone_on Settles).windows.row id).debt ≡ 0) (eqb-true 1 stream (only_one (1 == stream) _ active)) refl };
})
