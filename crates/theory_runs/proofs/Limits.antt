-- Another end of the run: the client's settings let the limit of its table fall to 0 and rise again, so that the next block, that of
-- the gateway's own reply, begins with both maxima.
use Rattle.std.proofs.Common.{◌≡◌, ℕ, ◌==◌, true, false, List, [], ◌∷◌, ◌++◌, Some, None, refl, subst, inl, inr, arith}
use Rattle.std.proofs.lemmas.Bool.{eqb-true}
use Rattle.std.specs.Prelude.{codes}
use Rattle.model.specs.Messages.Item.{Block}
use Rattle.model.specs.Frames.{setting, settings_ack}
use Rattle.model.specs.Tables.{total_size, keep, first_table}
use Rattle.model.specs.Blocks.{AreMaxima}
use Rattle.model.specs.Tapes.{Noted}
use Rattle.model.specs.Tapes.Note.{Fields}
use Rattle.model.specs.Tapes.Entry.{Came, Happened, Sent}
use Rattle.model.specs.Logs.Event.{UpFailed}
use Rattle.model.specs.Causes.{reply_head}
use Rattle.model.specs.Causes.Cause.{BadAnswer}
use Rattle.theory_errors.specs.Rows.Slot.{Live, Over}
use Rattle.theory_responses.specs.Outbox.{silent}
use Rattle.theory_responses.specs.Outbox.Part.{Final}
use Rattle.theory_receive_windows.specs.State.{}
use Rattle.theory_requests.specs.Lines.Answer.{Pending}
use Rattle.theory_header_tables.specs.Rule.{IsEncoded}
use Rattle.theory_header_tables.proofs.Requests.{decoded}
use Rattle.theory_header_tables.proofs.Example.{first_due}
use Rattle.theory.specs.Moves.{Decision, Move}
use Rattle.theory.specs.Moves.Addition.{Nothing}
use Rattle.theory.specs.Moves.Decision.{Takes, Sends, Goes}
use Rattle.theory.specs.Moves.Move.{Does, Settles}
use Rattle.theory.specs.State.{State, tape_of}
use Rattle.theory.specs.Rule.{MayDo, Rests, RestsBehind}
use Rattle.theory.specs.Steps.{told_by, Stands, next}
use Rattle.theory_runs.proofs.Steps.{goes, settles, rests}
use Rattle.theory_runs.proofs.Greeting.{setup, frame, plain, never, none_kept}
use Rattle.theory_runs.proofs.Request.{forwarded, one_whole, only_one}
use Rattle.theory_runs.proofs.Answer.{one, at_forwarded, forwarded_leads, forwarded_rest}
use Rattle.theory_runs.proofs.Failure.{bad, empty, with_bad, with_both, reply_block, failed_decision, caused, own_reply, bad_inserted, empty_inserted}
use Rattle.theory_runs.proofs.Window.{ledger_sized}

-- ---- the moves

-- settings with both limits
abbrev pub limits : Noted
limits = plain (frame 4 0 0 (setting 1 0 ++ setting 1 4096))

-- the block with both maxima
abbrev pub limited_block : List ℕ
limited_block = 32 ∷ 63 ∷ 225 ∷ 31 ∷ reply_block

abbrev pub reply_out : Noted
reply_out = record { frame = frame 1 5 1 limited_block; note = Fields (bad ∷ empty ∷ []) }

abbrev pub limits_decision : Decision
limits_decision = Takes limits decoded Nothing

abbrev pub ack_decision : Decision
ack_decision = Sends (plain settings_ack) first_table

abbrev pub reply_decision : Decision
reply_decision = Goes reply_out (Block (bad ∷ empty ∷ []) true) (Final (reply_head BadAnswer) true) with_both

abbrev pub limited : List Move
limited = Does ack_decision ∷ Does limits_decision ∷ forwarded

abbrev pub failed : List Move
failed = Does failed_decision ∷ limited

abbrev pub replied : List Move
replied = Settles ∷ Does reply_decision ∷ failed

-- the tape
pub replied_tape : tape_of replied ≡ Sent reply_out ∷ Happened (UpFailed 1) ∷ Sent (plain settings_ack) ∷ Came limits ∷ tape_of forwarded
replied_tape = refl

-- ---- what is kept behind each

abbrev pub at_limits : State
at_limits = record at_forwarded {
  ledger = ledger_sized 65535 (settings_ack ∷ []) (record { id = 1; slot = Live (one false) }) 65535 30;
  tables = record at_forwarded.tables { encoding = record at_forwarded.tables.encoding { limits = Some (record { least = 0; last = 4096 }) } };
  windows = record at_forwarded.windows { settled = false };
}

abbrev pub at_limited : State
at_limited = record at_limits {
  ledger = ledger_sized 65535 [] (record { id = 1; slot = Live (one false) }) 65535 39;
  offers = at_limits.offers;
  windows = at_limits.windows;
}

abbrev pub at_failed : State
at_failed = record at_limited {
  ledger = ledger_sized 65535 [] (record { id = 1; slot = Live caused }) 65535 39;
  offers = record at_limited.offers { kept = own_reply ∷ [] };
  requests = record at_limited.requests { live = [] };
  windows = at_limited.windows;
}

abbrev pub at_replied : State
at_replied = record at_failed {
  ledger = ledger_sized 65535 [] (record { id = 1; slot = Over false }) 65535 59;
  offers = record { kept = []; last = 1 };
  tables = record at_failed.tables { encoding = record at_failed.tables.encoding { table = with_both; limits = None } };
  windows = at_failed.windows;
}

-- ---- the block

maxima_read : AreMaxima first_table (32 ∷ 63 ∷ 225 ∷ 31 ∷ []) (0 ∷ 4096 ∷ []) first_table
unfolding keep
maxima_read = (
  32 ∷ [],
  63 ∷ 225 ∷ 31 ∷ [],
  refl,
  record { marked = record { int = inl (record { first = 32; is = refl; low_bits = refl; not_ones = omega arith }); marked = refl }; in_range = omega arith },
  (63 ∷ 225 ∷ 31 ∷ [], [], refl, record { marked = record { int = inr (record { first = 63; groups = 225 ∷ 31 ∷ []; is = refl; ones = refl; are_groups = (omega arith, omega arith); few = omega arith; sum = refl; in_range = omega arith }); marked = refl }; in_range = omega arith }, (refl, refl)),
)

pub limited_encoded : IsEncoded at_failed.tables.encoding (record { id = 1; ends = true; fragments = limited_block }) (Fields (bad ∷ empty ∷ [])) with_both
limited_encoded = record {
  fields = bad ∷ empty ∷ [];
  is_noted = refl;
  encodes = record {
    maxima = 0 ∷ 4096 ∷ [];
    is_block = record {
      front = 32 ∷ 63 ∷ 225 ∷ 31 ∷ [];
      rest = reply_block;
      between = first_table;
      is = refl;
      are_maxima = maxima_read;
      are_fields = (72 ∷ 130 ∷ 108 ∷ 2 ∷ [], 92 ∷ 1 ∷ 48 ∷ [], with_bad, refl, inr (inl bad_inserted.inserted), (92 ∷ 1 ∷ 48 ∷ [], [], with_both, refl, inr (inl empty_inserted.inserted), (refl, refl)));
    };
    due = first_due;
    chosen = (72 ∷ 130 ∷ 108 ∷ 2 ∷ [], 92 ∷ 1 ∷ 48 ∷ [], with_bad, refl, inr (inl bad_inserted), (92 ∷ 1 ∷ 48 ∷ [], [], with_both, refl, inr (inl empty_inserted), (refl, refl)));
  };
}

-- ---- each may come

limits_may : MayDo setup (told_by at_forwarded) (told_by at_limits) at_forwarded limits_decision
unfolding total_size
limits_may = record {
  rests = λ e. forwarded_rest;
  conduct = record { allowed = record { open_yet = refl; turn = record { nothing = refl; none_begun = refl; goes_on = refl } }; fit = λ fine completes. never completes };
  offer = (forwarded_rest.flushed, refl, refl);
  in_turn = tt;
  request = record { open_yet = refl; may = record { nothing = refl; none_done = refl; goes_on = refl } };
  additions = refl;
  calls = λ so. absurd (let no : false ≡ true = so in cc);
  table = record { is_noted = refl };
  window = record { nothing = forwarded_rest.given_back refl; goes_on = refl; opens_it = refl; lives = λ e. never e; over_with_it = refl };
}

ack_may : MayDo setup (told_by at_limits) (told_by at_limited) at_limits ack_decision
unfolding total_size
ack_may = record {
  rests = λ e. never e;
  conduct = record { allowed = record { open_yet = refl; turn = inl (record { front = refl; control = refl; owing = refl; calm = refl }) }; fit = refl };
  offer = record { no_block = refl; no_data = refl };
  in_turn = λ e. never e;
  request = record { open_yet = refl; may = inl refl };
  additions = tt;
  calls = λ so. absurd (let no : false ≡ true = so in cc);
  table = record { together = refl; is_given = refl };
  window = record { kind = refl; over_with_it = refl };
}

limited_rest : Rests (told_by at_limited) at_limited
limited_rest = record {
  conduct = record { nothing = refl; none_begun = refl; ended = λ e. never e };
  flushed = record { none_cut = λ low stream kept found. one_whole (1 == stream) (record { id = 1; box = silent; cut = false }) kept refl found; none_ready = λ low. refl };
  served = record { nothing = refl; none_done = refl; ended = λ e. never e };
  read = refl;
  given_back = λ open_yet. record { settled = refl; shared = refl; own = λ stream active goes_on. subst (λ (id : ℕ). (at_limited.windows.row id).debt ≡ 0) (eqb-true 1 stream (only_one (1 == stream) _ active)) refl };
}

failed_may : MayDo setup (told_by at_limited) (told_by at_failed) at_limited failed_decision
unfolding total_size
failed_may = record {
  rests = λ e. limited_rest;
  conduct = record { allowed = record { open_yet = refl; turn = record { nothing = refl; none_begun = refl; goes_on = refl } }; fit = λ e. refl };
  offer = (limited_rest.flushed, record { is_given = refl; active = refl; no_cause = refl }, refl);
  in_turn = tt;
  request = record { open_yet = refl; may = (record { nothing = refl; none_done = refl; goes_on = refl }, (record { k = 1; route = 0; stream = 1; answer = Pending }, refl)) };
  additions = tt;
  calls = λ so. absurd (let no : false ≡ true = so in cc);
  table = tt;
  window = (limited_rest.given_back refl, record { settled = refl; admitted = refl });
}

reply_may : MayDo setup (told_by at_failed) (told_by at_replied) at_failed reply_decision
unfolding total_size
reply_may = record {
  rests = λ e. never e;
  conduct = record { allowed = record { open_yet = refl; turn = inr (inl (record { nothing = refl; goes_on = refl; passing = refl; rightly = refl })) }; fit = refl };
  offer = (
    record {
      kept = own_reply;
      found = refl;
      not_cut = refl;
      next = (refl, (refl, refl));
      is = (refl, record { digits = codes "502"; is = refl; three = refl; are_digits = refl; status = refl; no_other = refl }, omega arith);
      turn = inl (record { is_ready = (0, omega arith, refl); above = omega arith; least = λ k lt some. some });
      own = λ is_data. let clash : 1 ≡ 0 = is_data in absurd (omega (arith, clash));
      shared = λ is_data. let clash : 1 ≡ 0 = is_data in absurd (omega (arith, clash));
    },
    record { active = refl; brings = refl },
  );
  in_turn = λ begins. record {
    none_cut = λ stream kept found. one_whole (1 == stream) own_reply kept refl found;
    turn = inl (record { is_ready = (0, omega arith, refl); above = omega arith; least = λ k lt some. some });
  };
  request = record { open_yet = refl; may = inl refl };
  additions = tt;
  calls = λ so. absurd (let no : false ≡ true = so in cc);
  table = record { together = refl; is_given = limited_encoded };
  window = record { kind = refl; over_with_it = refl };
}

-- ---- so the run is allowed, and rests

pub replied_leads : Stands setup replied (next setup at_replied Settles)
unfolding total_size
replied_leads =
    let first = goes setup forwarded at_forwarded forwarded_leads limits_decision at_limits refl refl limits_may in
    let second = goes setup (Does limits_decision ∷ forwarded) at_limits first ack_decision at_limited refl refl ack_may in
    let third = goes setup limited at_limited second failed_decision at_failed refl refl failed_may in
    settles setup (Does reply_decision ∷ failed) at_replied (goes setup failed at_failed third reply_decision at_replied refl refl reply_may)

pub replied_rests : RestsBehind setup replied
replied_rests = rests setup replied (next setup at_replied Settles) replied_leads (record {
  conduct = record { nothing = refl; none_begun = refl; ended = λ e. never e };
  flushed = record { none_cut = λ low stream kept found. none_kept found; none_ready = λ low. refl };
  served = record { nothing = refl; none_done = refl; ended = λ e. never e };
  read = refl;
  given_back = λ open_yet. record { settled = refl; shared = refl; own = λ stream active goes_on. subst (λ (id : ℕ). ((next setup at_replied Settles).windows.row id).debt ≡ 0) (eqb-true 1 stream (only_one (1 == stream) _ active)) refl };
})
