-- Two responses take turns: each move is one that may come, and it rests where both bodies wait and at the end.
use Rattle.std.proofs.Common.{◌≡◌, ℕ, zero, suc, ◌<◌, ◌≤◌, true, false, [], ◌∷◌, None, refl, inl, inr, arith}
use Rattle.std.specs.Prelude.{codes, slice_index}
use Rattle.model.specs.Tables.{total_size}
use Rattle.model.specs.Logs.Event.{Up}
use Rattle.model.specs.Logs.Act.{Open, ToUp, Close}
use Rattle.h1_writer.specs.Sending.Stage.{Whole}
use Rattle.theory_responses.specs.Outbox.Outbox.{Before}
use Rattle.theory_receive_windows.specs.State.{owing, blank, given}
use Rattle.theory_requests.specs.Lines.Answer.{Done, Pending}
use Rattle.theory_requests.specs.Lines.Heard.{Finished, Partly}
use Rattle.theory.specs.Moves.{Decision}
use Rattle.theory.specs.Moves.Decision.{Hears, Acts}
use Rattle.theory.specs.Moves.Move.{Does}
use Rattle.theory.specs.Rule.{MayDo, Rests, RestsBehind}
use Rattle.theory.specs.Steps.{told_by, Stands}
use Rattle.theory_runs.proofs.Steps.{goes, settles, rests}
use Rattle.theory_runs.proofs.Greeting.{setup, never, none_kept}
use Rattle.theory_runs.proofs.Request.{request_text, forwarded, first_route}
use Rattle.theory_runs.proofs.Answer.{answer_text, news, heard_decision, at_forwarded, forwarded_leads, forwarded_rest, each_one}
use Rattle.theory_runs.proofs.Window.{raise}
use Rattle.theory_runs.proofs.Body.{silent_one, none_cut_of, AllPaid, change_paid, owes_no_more, forwarded_paid, get_read}
use Rattle.theory_runs.proofs.Turns.{lower, ack_first, asked_decision, early_text, early_head, early_news, ack_again, early_decision, first_decision, second_decision, h_decision, i_decision, lowered, both_asked, hinted, first_begun, both_begun, raised, half_out, all_out, boxed, whole, body_left, last_left, first_live, second_live, at_lowered, at_acked, at_asked, at_opened, at_put, at_both_asked, at_told, at_hinted, at_first_heard, at_first_closed, at_first_begun, at_second_heard, at_second_closed, at_both_begun, at_raised, at_acked_again, at_first_half, at_half_out, at_first_out, at_both_out, at_all_out}
use Rattle.theory_runs.proofs.TurnsBlocks.{early_encoded, first_encoded, second_encoded}

-- ---- turns

-- where only the second stream is ready, it is the one
only_second : (k : ℕ) → k < 1 → slice_index (3 ∷ []) k ≡ 3
only_second zero lt = refl
only_second (suc k) lt = omega (arith, lt)

-- where both are, they are between these, and the second is the one above the first
between : (k : ℕ) → k < 2 → (1 ≤ slice_index (1 ∷ 3 ∷ []) k) × (slice_index (1 ∷ 3 ∷ []) k ≤ 3)
between zero lt = (omega arith, omega arith)
between (suc zero) lt = (omega arith, omega arith)
between (suc (suc k)) lt = absurd (omega (arith, lt))

above_first : (k : ℕ) → k < 2 → 1 < slice_index (1 ∷ 3 ∷ []) k → 3 ≤ slice_index (1 ∷ 3 ∷ []) k
above_first zero lt above = absurd (omega (arith, above))
above_first (suc zero) lt above = omega arith
above_first (suc (suc k)) lt above = absurd (omega (arith, lt))

-- ---- what rests

acked_paid : AllPaid at_acked.windows.row
acked_paid = forwarded_paid

both_asked_paid : AllPaid at_both_asked.windows.row
both_asked_paid =
    change_paid 3 (owing 0) at_opened.windows.row owes_no_more
    (change_paid 3 (given 2) at_asked.windows.row (λ r e. e)
    (change_paid 3 (λ r. blank) at_acked.windows.row (λ r e. refl) forwarded_paid))

acked_rest : Rests (told_by at_acked) at_acked
acked_rest = record {
  conduct = record { nothing = refl; none_begun = refl; ended = λ e. never e };
  flushed = record { none_cut = λ low stream kept found. none_cut_of (silent_one 1 ∷ []) refl stream kept found; none_ready = λ low. refl };
  served = record { nothing = refl; none_done = refl; ended = λ e. never e };
  read = refl;
  given_back = λ open_yet. record { settled = refl; shared = refl; own = λ stream active goes_on. forwarded_paid stream };
}

both_asked_rest : Rests (told_by at_both_asked) at_both_asked
both_asked_rest = record {
  conduct = record { nothing = refl; none_begun = refl; ended = λ e. never e };
  flushed = record { none_cut = λ low stream kept found. none_cut_of (silent_one 1 ∷ silent_one 3 ∷ []) refl stream kept found; none_ready = λ low. refl };
  served = record { nothing = refl; none_done = refl; ended = λ e. never e };
  read = refl;
  given_back = λ open_yet. record { settled = refl; shared = refl; own = λ stream active goes_on. both_asked_paid stream };
}

hinted_rest : Rests (told_by at_hinted) at_hinted
hinted_rest = record {
  conduct = record { nothing = refl; none_begun = refl; ended = λ e. never e };
  flushed = record { none_cut = λ low stream kept found. none_cut_of (silent_one 1 ∷ silent_one 3 ∷ []) refl stream kept found; none_ready = λ low. refl };
  served = record { nothing = refl; none_done = refl; ended = λ e. never e };
  read = refl;
  given_back = λ open_yet. record { settled = refl; shared = refl; own = λ stream active goes_on. both_asked_paid stream };
}

first_begun_rest : Rests (told_by at_first_begun) at_first_begun
first_begun_rest = record {
  conduct = record { nothing = refl; none_begun = refl; ended = λ e. never e };
  flushed = record { none_cut = λ low stream kept found. none_cut_of (boxed 1 body_left ∷ silent_one 3 ∷ []) refl stream kept found; none_ready = λ low. refl };
  served = record { nothing = refl; none_done = refl; ended = λ e. never e };
  read = refl;
  given_back = λ open_yet. record { settled = refl; shared = refl; own = λ stream active goes_on. both_asked_paid stream };
}

-- it rests though both bodies wait
both_begun_rest : Rests (told_by at_both_begun) at_both_begun
both_begun_rest = record {
  conduct = record { nothing = refl; none_begun = refl; ended = λ e. never e };
  flushed = record { none_cut = λ low stream kept found. none_cut_of (boxed 1 body_left ∷ boxed 3 body_left ∷ []) refl stream kept found; none_ready = λ low. refl };
  served = record { nothing = refl; none_done = refl; ended = λ e. never e };
  read = refl;
  given_back = λ open_yet. record { settled = refl; shared = refl; own = λ stream active goes_on. both_asked_paid stream };
}

-- ---- each may come

lower_may : MayDo setup (told_by at_forwarded) (told_by at_lowered) at_forwarded lower
unfolding total_size
lower_may = record {
  rests = λ e. forwarded_rest;
  conduct = record { allowed = record { open_yet = refl; turn = record { nothing = refl; none_begun = refl; goes_on = refl } }; fit = λ fine completes. never completes };
  offer = (forwarded_rest.flushed, refl, refl);
  in_turn = tt;
  request = record { open_yet = refl; may = record { nothing = refl; none_done = refl; goes_on = refl } };
  additions = refl;
  calls = λ so. absurd (let no : false ≡ true = so in cc);
  table = record { is_noted = refl };
  window = record { nothing = forwarded_rest.given_back refl; goes_on = refl; opens_it = refl; lives = λ e. never e; over_with_it = refl };
}

ack_may : MayDo setup (told_by at_lowered) (told_by at_acked) at_lowered ack_first
unfolding total_size
ack_may = record {
  rests = λ e. never e;
  conduct = record { allowed = record { open_yet = refl; turn = inl (record { front = refl; control = refl; owing = refl; calm = refl }) }; fit = refl };
  offer = record { no_block = refl; no_data = refl };
  in_turn = λ e. never e;
  request = record { open_yet = refl; may = inl refl };
  additions = tt;
  calls = λ so. absurd (let no : false ≡ true = so in cc);
  table = record { together = refl; is_given = refl };
  window = record { kind = refl; over_with_it = refl };
}

asked_may : MayDo setup (told_by at_acked) (told_by at_asked) at_acked asked_decision
unfolding total_size
asked_may = record {
  rests = λ e. acked_rest;
  conduct = record { allowed = record { open_yet = refl; turn = record { nothing = refl; none_begun = refl; goes_on = refl } }; fit = λ fine completes. refl };
  offer = (acked_rest.flushed, refl, refl);
  in_turn = tt;
  request = record {
    open_yet = refl;
    may = (
      record { nothing = refl; none_done = refl; goes_on = refl },
      record {
        serving = record { counted = omega arith; served = refl; goes_on = refl };
        by_route = first_route;
        sending = record { none_ended = λ e. (refl, refl); full = refl; has_length = tt; is = refl };
        whole = refl;
      },
    );
  };
  additions = record { first = refl; adds = record { adds = refl; goes_on = refl } };
  calls = λ so. absurd (let no : false ≡ true = so in cc);
  table = record { is_noted = get_read };
  window = record { nothing = acked_rest.given_back refl; goes_on = refl; opens_it = refl; lives = λ e. refl; over_with_it = refl };
}

opened_may : MayDo setup (told_by at_asked) (told_by at_opened) at_asked (Acts (Open 2 0))
unfolding total_size
opened_may = record {
  rests = λ e. never e;
  conduct = record { allowed = record { open_yet = refl; turn = refl }; fit = tt };
  offer = record { active = refl; has_items = refl; no_cause = refl; first = (λ e. let clash : 3 ≡ 1 = e in omega (arith, clash), tt); counted = omega arith };
  in_turn = tt;
  request = record { open_yet = refl; may = record { stream = 3; text = request_text; stage = Whole; due = refl; next = refl } };
  additions = tt;
  calls = λ so. absurd (let no : false ≡ true = so in cc);
  table = tt;
  window = record { active = refl; counted = omega arith; first = refl; unused = refl; untaken = refl };
}

put_may : MayDo setup (told_by at_opened) (told_by at_put) at_opened (Acts (ToUp 2 request_text))
unfolding total_size
put_may = record {
  rests = λ e. never e;
  conduct = record { allowed = record { open_yet = refl; turn = refl }; fit = tt };
  offer = λ begins. absurd (let no : false ≡ true = begins in cc);
  in_turn = tt;
  request = record { open_yet = refl; may = inl refl };
  additions = tt;
  calls = λ so. absurd (let no : false ≡ true = so in cc);
  table = tt;
  window = record { opened = refl; its = refl; in_effect = λ e. cc };
}

told_may : MayDo setup (told_by at_both_asked) (told_by at_told) at_both_asked (Hears (Up 1 early_text) 1 early_news Partly)
unfolding total_size
told_may = record {
  rests = λ e. both_asked_rest;
  conduct = record { allowed = record { open_yet = refl; turn = record { nothing = refl; none_begun = refl; goes_on = refl } }; fit = λ e. never e };
  offer = (both_asked_rest.flushed, record { is_given = refl; active = refl; no_cause = refl }, refl);
  in_turn = tt;
  request = record { open_yet = refl; may = (record { nothing = refl; none_done = refl; goes_on = refl }, tt, (first_live Pending, refl)) };
  additions = tt;
  calls = λ so. absurd (let no : false ≡ true = so in cc);
  table = tt;
  window = (both_asked_rest.given_back refl, record { settled = refl; admitted = refl });
}

early_may : MayDo setup (told_by at_told) (told_by at_hinted) at_told early_decision
unfolding total_size
early_may = record {
  rests = λ e. never e;
  conduct = record { allowed = record { open_yet = refl; turn = inr (inl (record { nothing = refl; goes_on = refl; passing = refl; rightly = refl })) }; fit = refl };
  offer = (
    record {
      kept = boxed 1 (Before (early_head ∷ []) None [] None);
      found = refl;
      not_cut = refl;
      next = refl;
      is = (refl, record { digits = codes "103"; is = refl; three = refl; are_digits = refl; status = refl; no_other = refl }, omega arith);
      turn = inl (record { is_ready = (0, omega arith, refl); above = omega arith; least = λ k lt some. some });
      own = λ is_data. let clash : 1 ≡ 0 = is_data in absurd (omega (arith, clash));
      shared = λ is_data. let clash : 1 ≡ 0 = is_data in absurd (omega (arith, clash));
    },
    record { active = refl; brings = refl },
  );
  in_turn = λ begins. record {
    none_cut = λ stream kept found. none_cut_of (boxed 1 (Before (early_head ∷ []) None [] None) ∷ silent_one 3 ∷ []) refl stream kept found;
    turn = inl (record { is_ready = (0, omega arith, refl); above = omega arith; least = λ k lt some. some });
  };
  request = record { open_yet = refl; may = inl refl };
  additions = tt;
  calls = λ so. absurd (let no : false ≡ true = so in cc);
  table = record { together = refl; is_given = early_encoded };
  window = record { kind = refl; over_with_it = refl };
}

first_heard_may : MayDo setup (told_by at_hinted) (told_by at_first_heard) at_hinted heard_decision
unfolding total_size
first_heard_may = record {
  rests = λ e. hinted_rest;
  conduct = record { allowed = record { open_yet = refl; turn = record { nothing = refl; none_begun = refl; goes_on = refl } }; fit = λ e. never e };
  offer = (hinted_rest.flushed, record { is_given = refl; active = refl; no_cause = refl }, refl);
  in_turn = tt;
  request = record { open_yet = refl; may = (record { nothing = refl; none_done = refl; goes_on = refl }, tt, (first_live Pending, refl)) };
  additions = tt;
  calls = λ so. absurd (let no : false ≡ true = so in cc);
  table = tt;
  window = (hinted_rest.given_back refl, record { settled = refl; admitted = refl });
}

first_closed_may : MayDo setup (told_by at_first_heard) (told_by at_first_closed) at_first_heard (Acts (Close 1))
unfolding total_size
first_closed_may = record {
  rests = λ e. never e;
  conduct = record { allowed = record { open_yet = refl; turn = refl }; fit = tt };
  offer = tt;
  in_turn = tt;
  request = record { open_yet = refl; may = record { nothing = refl; line = first_live Done; found = refl; why = inl refl } };
  additions = tt;
  calls = λ so. absurd (let no : false ≡ true = so in cc);
  table = tt;
  window = tt;
}

first_may : MayDo setup (told_by at_first_closed) (told_by at_first_begun) at_first_closed first_decision
unfolding total_size
first_may = record {
  rests = λ e. never e;
  conduct = record { allowed = record { open_yet = refl; turn = inr (inl (record { nothing = refl; goes_on = refl; passing = refl; rightly = refl })) }; fit = refl };
  offer = (
    record {
      kept = boxed 1 whole;
      found = refl;
      not_cut = refl;
      next = (refl, tt);
      is = (refl, record { digits = codes "200"; is = refl; three = refl; are_digits = refl; status = refl; no_other = refl }, omega arith);
      turn = inr (record { is_ready = (0, omega arith, refl); none_above = λ k lt. let one = each_one k lt in omega (arith, one); least = λ k lt. let one = each_one k lt in omega (arith, one) });
      own = λ is_data. let clash : 1 ≡ 0 = is_data in absurd (omega (arith, clash));
      shared = λ is_data. let clash : 1 ≡ 0 = is_data in absurd (omega (arith, clash));
    },
    record { active = refl; brings = refl },
  );
  in_turn = λ begins. record {
    none_cut = λ stream kept found. none_cut_of (boxed 1 whole ∷ silent_one 3 ∷ []) refl stream kept found;
    turn = inr (record { is_ready = (0, omega arith, refl); none_above = λ k lt. let one = each_one k lt in omega (arith, one); least = λ k lt. let one = each_one k lt in omega (arith, one) });
  };
  request = record { open_yet = refl; may = inl refl };
  additions = tt;
  calls = λ so. absurd (let no : false ≡ true = so in cc);
  table = record { together = refl; is_given = first_encoded };
  window = record { kind = refl; over_with_it = refl };
}

second_heard_may : MayDo setup (told_by at_first_begun) (told_by at_second_heard) at_first_begun (Hears (Up 2 answer_text) 3 news Finished)
unfolding total_size
second_heard_may = record {
  rests = λ e. first_begun_rest;
  conduct = record { allowed = record { open_yet = refl; turn = record { nothing = refl; none_begun = refl; goes_on = refl } }; fit = λ e. never e };
  offer = (first_begun_rest.flushed, record { is_given = refl; active = refl; no_cause = refl }, refl);
  in_turn = tt;
  request = record { open_yet = refl; may = (record { nothing = refl; none_done = refl; goes_on = refl }, tt, (second_live Pending, refl)) };
  additions = tt;
  calls = λ so. absurd (let no : false ≡ true = so in cc);
  table = tt;
  window = (first_begun_rest.given_back refl, record { settled = refl; admitted = refl });
}

second_closed_may : MayDo setup (told_by at_second_heard) (told_by at_second_closed) at_second_heard (Acts (Close 2))
unfolding total_size
second_closed_may = record {
  rests = λ e. never e;
  conduct = record { allowed = record { open_yet = refl; turn = refl }; fit = tt };
  offer = tt;
  in_turn = tt;
  request = record { open_yet = refl; may = record { nothing = refl; line = second_live Done; found = refl; why = inl refl } };
  additions = tt;
  calls = λ so. absurd (let no : false ≡ true = so in cc);
  table = tt;
  window = tt;
}

second_may : MayDo setup (told_by at_second_closed) (told_by at_both_begun) at_second_closed second_decision
unfolding total_size
second_may = record {
  rests = λ e. never e;
  conduct = record { allowed = record { open_yet = refl; turn = inr (inl (record { nothing = refl; goes_on = refl; passing = refl; rightly = refl })) }; fit = refl };
  offer = (
    record {
      kept = boxed 3 whole;
      found = refl;
      not_cut = refl;
      next = (refl, tt);
      is = (refl, record { digits = codes "200"; is = refl; three = refl; are_digits = refl; status = refl; no_other = refl }, omega arith);
      turn = inl (record { is_ready = (0, omega arith, refl); above = omega arith; least = λ k lt some. let one = only_second k lt in omega (arith, one) });
      own = λ is_data. let clash : 1 ≡ 0 = is_data in absurd (omega (arith, clash));
      shared = λ is_data. let clash : 1 ≡ 0 = is_data in absurd (omega (arith, clash));
    },
    record { active = refl; brings = refl },
  );
  in_turn = λ begins. record {
    none_cut = λ stream kept found. none_cut_of (boxed 1 body_left ∷ boxed 3 whole ∷ []) refl stream kept found;
    turn = inl (record { is_ready = (0, omega arith, refl); above = omega arith; least = λ k lt some. let one = only_second k lt in omega (arith, one) });
  };
  request = record { open_yet = refl; may = inl refl };
  additions = tt;
  calls = λ so. absurd (let no : false ≡ true = so in cc);
  table = record { together = refl; is_given = second_encoded };
  window = record { kind = refl; over_with_it = refl };
}

raise_may : MayDo setup (told_by at_both_begun) (told_by at_raised) at_both_begun raise
unfolding total_size
raise_may = record {
  rests = λ e. both_begun_rest;
  conduct = record { allowed = record { open_yet = refl; turn = record { nothing = refl; none_begun = refl; goes_on = refl } }; fit = λ fine completes. never completes };
  offer = (both_begun_rest.flushed, refl, refl);
  in_turn = tt;
  request = record { open_yet = refl; may = record { nothing = refl; none_done = refl; goes_on = refl } };
  additions = refl;
  calls = λ so. absurd (let no : false ≡ true = so in cc);
  table = record { is_noted = refl };
  window = record { nothing = both_begun_rest.given_back refl; goes_on = refl; opens_it = refl; lives = λ e. never e; over_with_it = refl };
}

ack_again_may : MayDo setup (told_by at_raised) (told_by at_acked_again) at_raised ack_again
unfolding total_size
ack_again_may = record {
  rests = λ e. never e;
  conduct = record { allowed = record { open_yet = refl; turn = inl (record { front = refl; control = refl; owing = refl; calm = refl }) }; fit = refl };
  offer = record { no_block = refl; no_data = refl };
  in_turn = λ e. never e;
  request = record { open_yet = refl; may = inl refl };
  additions = tt;
  calls = λ so. absurd (let no : false ≡ true = so in cc);
  table = record { together = refl; is_given = refl };
  window = record { kind = refl; over_with_it = refl };
}

-- the stream that had its turn longest ago goes first, then the other, and so again
first_h_may : MayDo setup (told_by at_acked_again) (told_by at_first_half) at_acked_again (h_decision 1)
unfolding total_size
first_h_may = record {
  rests = λ e. never e;
  conduct = record { allowed = record { open_yet = refl; turn = inr (inl (record { nothing = refl; goes_on = refl; passing = refl; rightly = refl })) }; fit = refl };
  offer = (
    record {
      kept = boxed 1 body_left;
      found = refl;
      not_cut = refl;
      next = (codes "i", refl, tt, λ e. absurd (let clash : codes "h" ≡ [] = e in cc));
      is = (refl, refl);
      turn = inr (record { is_ready = (0, omega arith, refl); none_above = λ k lt. (between k lt).1; least = λ k lt. (between k lt).0 });
      own = λ is_data some. omega arith;
      shared = λ is_data some. omega arith;
    },
    record { active = refl; brings = refl },
  );
  in_turn = λ begins. record {
    none_cut = λ stream kept found. none_cut_of (boxed 1 body_left ∷ boxed 3 body_left ∷ []) refl stream kept found;
    turn = inr (record { is_ready = (0, omega arith, refl); none_above = λ k lt. (between k lt).1; least = λ k lt. (between k lt).0 });
  };
  request = record { open_yet = refl; may = inl refl };
  additions = tt;
  calls = λ so. absurd (let no : false ≡ true = so in cc);
  table = record { together = refl; is_given = refl };
  window = record { kind = refl; over_with_it = refl };
}

second_h_may : MayDo setup (told_by at_first_half) (told_by at_half_out) at_first_half (h_decision 3)
unfolding total_size
second_h_may = record {
  rests = λ e. never e;
  conduct = record { allowed = record { open_yet = refl; turn = inr (inl (record { nothing = refl; goes_on = refl; passing = refl; rightly = refl })) }; fit = refl };
  offer = (
    record {
      kept = boxed 3 body_left;
      found = refl;
      not_cut = refl;
      next = (codes "i", refl, tt, λ e. absurd (let clash : codes "h" ≡ [] = e in cc));
      is = (refl, refl);
      turn = inl (record { is_ready = (1, omega arith, refl); above = omega arith; least = above_first });
      own = λ is_data some. omega arith;
      shared = λ is_data some. omega arith;
    },
    record { active = refl; brings = refl },
  );
  in_turn = λ begins. record {
    none_cut = λ stream kept found. none_cut_of (boxed 1 last_left ∷ boxed 3 body_left ∷ []) refl stream kept found;
    turn = inl (record { is_ready = (1, omega arith, refl); above = omega arith; least = above_first });
  };
  request = record { open_yet = refl; may = inl refl };
  additions = tt;
  calls = λ so. absurd (let no : false ≡ true = so in cc);
  table = record { together = refl; is_given = refl };
  window = record { kind = refl; over_with_it = refl };
}

first_i_may : MayDo setup (told_by at_half_out) (told_by at_first_out) at_half_out (i_decision 1)
unfolding total_size
first_i_may = record {
  rests = λ e. never e;
  conduct = record { allowed = record { open_yet = refl; turn = inr (inl (record { nothing = refl; goes_on = refl; passing = refl; rightly = refl })) }; fit = refl };
  offer = (
    record {
      kept = boxed 1 last_left;
      found = refl;
      not_cut = refl;
      next = ([], refl, (refl, refl), λ e. refl);
      is = (refl, refl);
      turn = inr (record { is_ready = (0, omega arith, refl); none_above = λ k lt. (between k lt).1; least = λ k lt. (between k lt).0 });
      own = λ is_data some. omega arith;
      shared = λ is_data some. omega arith;
    },
    record { active = refl; brings = refl },
  );
  in_turn = λ begins. record {
    none_cut = λ stream kept found. none_cut_of (boxed 1 last_left ∷ boxed 3 last_left ∷ []) refl stream kept found;
    turn = inr (record { is_ready = (0, omega arith, refl); none_above = λ k lt. (between k lt).1; least = λ k lt. (between k lt).0 });
  };
  request = record { open_yet = refl; may = inl refl };
  additions = tt;
  calls = λ so. absurd (let no : false ≡ true = so in cc);
  table = record { together = refl; is_given = refl };
  window = record { kind = refl; over_with_it = refl };
}

second_i_may : MayDo setup (told_by at_first_out) (told_by at_both_out) at_first_out (i_decision 3)
unfolding total_size
second_i_may = record {
  rests = λ e. never e;
  conduct = record { allowed = record { open_yet = refl; turn = inr (inl (record { nothing = refl; goes_on = refl; passing = refl; rightly = refl })) }; fit = refl };
  offer = (
    record {
      kept = boxed 3 last_left;
      found = refl;
      not_cut = refl;
      next = ([], refl, (refl, refl), λ e. refl);
      is = (refl, refl);
      turn = inl (record { is_ready = (0, omega arith, refl); above = omega arith; least = λ k lt some. let one = only_second k lt in omega (arith, one) });
      own = λ is_data some. omega arith;
      shared = λ is_data some. omega arith;
    },
    record { active = refl; brings = refl },
  );
  in_turn = λ begins. record {
    none_cut = λ stream kept found. none_cut_of (boxed 3 last_left ∷ []) refl stream kept found;
    turn = inl (record { is_ready = (0, omega arith, refl); above = omega arith; least = λ k lt some. let one = only_second k lt in omega (arith, one) });
  };
  request = record { open_yet = refl; may = inl refl };
  additions = tt;
  calls = λ so. absurd (let no : false ≡ true = so in cc);
  table = record { together = refl; is_given = refl };
  window = record { kind = refl; over_with_it = refl };
}

-- ---- so the run is allowed, and rests where both bodies wait and at its end

pub both_asked_leads : Stands setup both_asked at_both_asked
unfolding total_size
both_asked_leads =
    let first = goes setup forwarded at_forwarded forwarded_leads lower at_lowered refl refl lower_may in
    let second = goes setup (Does lower ∷ forwarded) at_lowered first ack_first at_acked refl refl ack_may in
    let third = goes setup lowered at_acked second asked_decision at_asked refl refl asked_may in
    let fourth = goes setup (Does asked_decision ∷ lowered) at_asked third (Acts (Open 2 0)) at_opened refl refl opened_may in
    settles setup (Does (Acts (ToUp 2 request_text)) ∷ Does (Acts (Open 2 0)) ∷ Does asked_decision ∷ lowered) at_put
    (goes setup (Does (Acts (Open 2 0)) ∷ Does asked_decision ∷ lowered) at_opened fourth (Acts (ToUp 2 request_text)) at_put refl refl put_may)

pub first_begun_leads : Stands setup first_begun at_first_begun
unfolding total_size
first_begun_leads =
    let first = goes setup both_asked at_both_asked both_asked_leads (Hears (Up 1 early_text) 1 early_news Partly) at_told refl refl told_may in
    let second = goes setup (Does (Hears (Up 1 early_text) 1 early_news Partly) ∷ both_asked) at_told first early_decision at_hinted refl refl early_may in
    let third = goes setup hinted at_hinted second heard_decision at_first_heard refl refl first_heard_may in
    let fourth = goes setup (Does heard_decision ∷ hinted) at_first_heard third (Acts (Close 1)) at_first_closed refl refl first_closed_may in
    goes setup (Does (Acts (Close 1)) ∷ Does heard_decision ∷ hinted) at_first_closed fourth first_decision at_first_begun refl refl first_may

pub both_begun_leads : Stands setup both_begun at_both_begun
unfolding total_size
both_begun_leads =
    let heard : Decision = Hears (Up 2 answer_text) 3 news Finished in
    let first = goes setup first_begun at_first_begun first_begun_leads heard at_second_heard refl refl second_heard_may in
    let second = goes setup (Does heard ∷ first_begun) at_second_heard first (Acts (Close 2)) at_second_closed refl refl second_closed_may in
    goes setup (Does (Acts (Close 2)) ∷ Does heard ∷ first_begun) at_second_closed second second_decision at_both_begun refl refl second_may

pub both_begun_rests : RestsBehind setup both_begun
both_begun_rests = rests setup both_begun at_both_begun both_begun_leads both_begun_rest

pub half_out_leads : Stands setup half_out at_half_out
unfolding total_size
half_out_leads =
    let first = goes setup both_begun at_both_begun both_begun_leads raise at_raised refl refl raise_may in
    let second = goes setup (Does raise ∷ both_begun) at_raised first ack_again at_acked_again refl refl ack_again_may in
    let third = goes setup raised at_acked_again second (h_decision 1) at_first_half refl refl first_h_may in
    goes setup (Does (h_decision 1) ∷ raised) at_first_half third (h_decision 3) at_half_out refl refl second_h_may

pub all_out_leads : Stands setup all_out at_all_out
unfolding total_size
all_out_leads =
    let first = goes setup half_out at_half_out half_out_leads (i_decision 1) at_first_out refl refl first_i_may in
    settles setup (Does (i_decision 3) ∷ Does (i_decision 1) ∷ half_out) at_both_out (goes setup (Does (i_decision 1) ∷ half_out) at_first_out first (i_decision 3) at_both_out refl refl second_i_may)

pub all_out_rests : RestsBehind setup all_out
all_out_rests = rests setup all_out at_all_out all_out_leads (record {
  conduct = record { nothing = refl; none_begun = refl; ended = λ e. never e };
  flushed = record { none_cut = λ low stream kept found. none_kept found; none_ready = λ low. refl };
  served = record { nothing = refl; none_done = refl; ended = λ e. never e };
  read = refl;
  given_back = λ open_yet. record { settled = refl; shared = refl; own = λ stream active goes_on. change_paid 0 (owing 0) at_both_asked.windows.row owes_no_more both_asked_paid stream };
})
