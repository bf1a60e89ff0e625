-- The POST of the run comes to its end instead: it goes out whole, behind the GETs before it and between its frames.
use Rattle.std.proofs.Common.{◌≡◌, ℕ, ◌==◌, Bool, true, false, not, if◌then◌else◌, List, [], ◌∷◌, ◌++◌, refl, sym, ap, ◌∙◌, subst, inl, inr, arith, pos, append_assoc, append-nil, ◌-ℤ◌}
use Rattle.std.proofs.lemmas.Bool.{eqb-true}
use Rattle.std.specs.Prelude.{codes, length, None}
use Rattle.std.specs.List.{list_all, flat_map, concat}
use Rattle.model.specs.Messages.Item.{Content}
use Rattle.model.specs.Octets.{is_empty}
use Rattle.model.specs.Http2.{HasLength}
use Rattle.model.specs.Tables.{total_size}
use Rattle.model.specs.Logs.Act.{Open, ToUp}
use Rattle.model.specs.Openings.{Opened}
use Rattle.model.specs.Tapes.{Noted}
use Rattle.model.specs.Tapes.Entry.{Came, Sent, Did}
use Rattle.model.specs.Headline.{ClausesHold}
use Rattle.h1_writer.specs.Sending.{Continues, head_of}
use Rattle.model.specs.Http1Text.{content_of, chunk_text, last_chunk}
use Rattle.h1_writer.specs.Sending.Stage.{Whole, Chunking}
use Rattle.h1_writer.proofs.Stages.{adds_chunk}
use Rattle.theory_requests.specs.Lines.Answer.{Pending}
use Rattle.theory_requests.proofs.Writing.{ends_behind}
use Rattle.theory_errors.specs.Summary.{Stream as Told}
use Rattle.theory_errors.specs.Rows.{Row, fresh}
use Rattle.theory_errors.specs.Rows.Slot.{Live}
use Rattle.theory_responses.specs.Sight.{sight_in}
use Rattle.theory_receive_windows.specs.State.{add, change, owing, given}
use Rattle.theory_requests.specs.State.Due.{Nothing, ToOpen, ToSend}
use Rattle.theory_header_tables.proofs.Requests.{decoded}
use Rattle.theory.specs.Moves.{Decision, Move}
use Rattle.theory.specs.Moves.Addition.{Gathers}
use Rattle.theory.specs.Moves.Decision.{Takes, Sends, Acts}
use Rattle.theory.specs.Moves.Move.{Does, Settles}
use Rattle.theory.specs.State.{State, tape_of}
use Rattle.theory.specs.Rule.{MayDo, RestsBehind}
use Rattle.theory.proofs.Keeping.{clauses}
use Rattle.theory.specs.Steps.{told_by, Stands, next}
use Rattle.theory_runs.proofs.Steps.{goes, settles, rests}
use Rattle.theory_runs.proofs.Greeting.{setup, frame, plain, never}
use Rattle.theory_runs.proofs.Body.{post_text, between, between_leads, between_rest, between_paid, none_cut_of, silent_one, get_row, ledger_of_all, first_given, second_given, at_between}
use Rattle.theory_runs.proofs.Hold.{known}

-- ---- the moves

-- the last octet, with the end of the stream, and what is written for the whole body
abbrev pub last_octet : Noted
last_octet = plain (frame 0 1 3 (codes "y"))

abbrev pub written : List ℕ
written = chunk_text (codes "hey") ++ last_chunk []

abbrev pub whole_text : List ℕ
whole_text = post_text ++ written

abbrev pub octet_back : Noted
octet_back = plain (frame 8 0 0 (0 ∷ 0 ∷ 0 ∷ 1 ∷ []))

abbrev pub last_decision : Decision
last_decision = Takes last_octet decoded (Gathers (Content (codes "y") true) 0 post_text Chunking (codes "he") written Whole)

abbrev pub comes : List Move
comes = Does last_decision ∷ between

abbrev pub goes_out : List Move
goes_out = Settles ∷ Does (Acts (ToUp 3 whole_text)) ∷ Does (Acts (Open 3 0)) ∷ comes

abbrev pub ended : List Move
ended = Does (Sends octet_back decoded) ∷ goes_out

-- the tape
pub ended_tape : tape_of ended ≡ Sent octet_back ∷ Did (ToUp 3 whole_text) ∷ Did (Open 3 0) ∷ Came last_octet ∷ tape_of between
ended_tape = refl

-- ---- what is kept behind each

-- the POST, which the client ended
abbrev pub posted : Told
posted = record fresh { ended_by_client = true; room = pos 65534 -ℤ pos 65535; outline = record { begun = true; declared = None; octets = 3; over = true; cause = None; head_out = false } }

abbrev pub all_rows : List Row
all_rows = get_row 5 ∷ record { id = 3; slot = Live posted } ∷ get_row 1 ∷ []

abbrev pub third_given : Opened
third_given = record { k = 3; route = 0; stream = 3 }

abbrev pub at_comes : State
at_comes = record at_between {
  ledger = ledger_of_all all_rows (second_given ∷ first_given ∷ []) 3 65534 56;
  requests = record at_between.requests { held = []; due = ToOpen 3 0 whole_text Whole };
  windows = record at_between.windows { count = 1; settled = false };
}

abbrev pub at_opened : State
at_opened = record at_comes {
  ledger = ledger_of_all all_rows (third_given ∷ second_given ∷ first_given ∷ []) 3 65534 56;
  requests = record at_comes.requests { live = record { k = 3; route = 0; stream = 3; answer = Pending } ∷ at_between.requests.live; due = ToSend 3 whole_text; count = 3 };
  windows = record at_comes.windows { row = change 3 (given 3) at_between.windows.row };
}

abbrev pub at_put : State
at_put = record at_opened {
  requests = record at_opened.requests { due = Nothing };
  windows = record at_opened.windows { out = add 3 (length whole_text) at_opened.windows.out };
}

abbrev pub at_goes_out : State
at_goes_out = next setup at_put Settles

abbrev pub at_ended : State
at_ended = record at_goes_out {
  ledger = ledger_of_all all_rows (third_given ∷ second_given ∷ first_given ∷ []) 3 65535 69;
  offers = at_goes_out.offers;
  windows = record at_goes_out.windows { debt = 0 };
}

-- ---- the text

-- the last chunk ends it
pub text_ends : Continues Chunking (last_chunk []) [] [] Whole
text_ends keep parts ended_head text pieces s = record {
  none_ended = λ e. absurd (let clash : true ≡ false = sym e ∙ s.not_ended in cc);
  full = subst (λ ps. list_all (λ piece. not (is_empty piece)) ps ≡ true) (sym (append-nil pieces)) s.full;
  has_length = subst (λ d. HasLength d (concat (pieces ++ []))) (sym s.undeclared) tt;
  is =
      ap (λ x. x ++ last_chunk []) s.is ∙ append_assoc (head_of keep parts false) (flat_map chunk_text pieces) (last_chunk [])
      ∙ ap (λ ps. head_of keep parts false ++ (flat_map chunk_text ps ++ last_chunk [])) (sym (append-nil pieces))
      ∙ ap (λ d. head_of keep parts false ++ content_of d false (pieces ++ []) []) (sym s.undeclared)
      ∙ ap (λ b. head_of keep parts b ++ content_of parts.length b (pieces ++ []) []) (sym s.not_ended);
}

-- ---- each may come

comes_may : MayDo setup (told_by at_between) (told_by at_comes) at_between last_decision
unfolding total_size
comes_may = record {
  rests = λ e. between_rest;
  conduct = record { allowed = record { open_yet = refl; turn = record { nothing = refl; none_begun = refl; goes_on = refl } }; fit = λ fine completes. never completes };
  offer = (between_rest.flushed, refl, refl);
  in_turn = tt;
  request = record {
    open_yet = refl;
    may = (
      record { nothing = refl; none_done = refl; goes_on = refl },
      record {
        serving = record { counted = omega arith; served = refl; goes_on = refl };
        found = refl;
        gathered = (ends_behind Chunking Chunking Whole (chunk_text (codes "hey")) (last_chunk []) (codes "hey") [] (adds_chunk Chunking (codes "hey") refl (omega arith)) text_ends, refl);
      },
    );
  };
  additions = record { adds = refl; goes_on = refl };
  calls = λ so. absurd (let no : false ≡ true = so in cc);
  table = record { is_noted = refl };
  window = record { nothing = between_rest.given_back refl; goes_on = refl; opens_it = refl; lives = λ e. never e; over_with_it = refl };
}

opened_may : MayDo setup (told_by at_comes) (told_by at_opened) at_comes (Acts (Open 3 0))
unfolding total_size
opened_may = record {
  rests = λ e. never e;
  conduct = record { allowed = record { open_yet = refl; turn = refl }; fit = tt };
  offer = record { active = refl; has_items = refl; no_cause = refl; first = (λ e. let clash : 3 ≡ 5 = e in omega (arith, clash), (λ e. let clash : 3 ≡ 1 = e in omega (arith, clash), tt)); counted = omega arith };
  in_turn = tt;
  request = record { open_yet = refl; may = record { stream = 3; text = whole_text; stage = Whole; due = refl; next = refl } };
  additions = tt;
  calls = λ so. absurd (let no : false ≡ true = so in cc);
  table = tt;
  window = record { active = refl; counted = omega arith; first = refl; unused = refl; untaken = refl };
}

put_may : MayDo setup (told_by at_opened) (told_by at_put) at_opened (Acts (ToUp 3 whole_text))
unfolding total_size
put_may = record {
  rests = λ e. never e;
  conduct = record { allowed = record { open_yet = refl; turn = refl }; fit = tt };
  offer = λ begins. absurd (let no : false ≡ true = begins in cc);
  in_turn = tt;
  request = record { open_yet = refl; may = inl refl };
  additions = tt;
  calls = λ so. absurd (let no : false ≡ true = so in cc);
  table = tt;
  window = record { opened = refl; its = refl; in_effect = λ e. cc };
}

back_may : MayDo setup (told_by at_goes_out) (told_by at_ended) at_goes_out (Sends octet_back decoded)
unfolding total_size
back_may = record {
  rests = λ e. never e;
  conduct = record { allowed = record { open_yet = refl; turn = inr (inl (record { nothing = refl; goes_on = refl; passing = refl; rightly = refl })) }; fit = refl };
  offer = record { no_block = refl; no_data = refl };
  in_turn = λ e. never e;
  request = record { open_yet = refl; may = inl refl };
  additions = tt;
  calls = λ so. absurd (let no : false ≡ true = so in cc);
  table = record { together = refl; is_given = refl };
  window = record { kind = refl; owed = refl };
}

-- ---- so the run is allowed, and rests

-- of a stream that the client ended nothing goes back; of the others nothing is owed
own_back : (stream : ℕ) → (sight_in (told_by at_ended)).ended stream ≡ false → (at_ended.windows.row stream).debt ≡ 0
own_back stream = at (3 == stream) refl
  where
    at : (b : Bool) → (3 == stream) ≡ b → (sight_in (told_by at_ended)).ended stream ≡ false → (at_ended.windows.row stream).debt ≡ 0
    at true is =
        subst (λ (id : ℕ). (sight_in (told_by at_ended)).ended id ≡ false → (at_ended.windows.row id).debt ≡ 0) (eqb-true 3 stream is)
        (λ e. absurd (let clash : true ≡ false = e in cc))
    at false is = λ e. ap (λ b. (if b then owing 1 (if b then given 3 (at_between.windows.row stream) else at_between.windows.row stream) else (if b then given 3 (at_between.windows.row stream) else at_between.windows.row stream)).debt) is ∙ between_paid stream

pub ended_leads : Stands setup ended at_ended
unfolding total_size
ended_leads =
    let first = goes setup between at_between between_leads last_decision at_comes refl refl comes_may in
    let second = goes setup comes at_comes first (Acts (Open 3 0)) at_opened refl refl opened_may in
    let third = goes setup (Does (Acts (Open 3 0)) ∷ comes) at_opened second (Acts (ToUp 3 whole_text)) at_put refl refl put_may in
    let settled = settles setup (Does (Acts (ToUp 3 whole_text)) ∷ Does (Acts (Open 3 0)) ∷ comes) at_put third in
    goes setup goes_out at_goes_out settled (Sends octet_back decoded) at_ended refl refl back_may

pub ended_rests : RestsBehind setup ended
ended_rests = rests setup ended at_ended ended_leads (record {
  conduct = record { nothing = refl; none_begun = refl; ended = λ e. never e };
  flushed = record { none_cut = λ low stream kept found. none_cut_of (silent_one 1 ∷ silent_one 3 ∷ silent_one 5 ∷ []) refl stream kept found; none_ready = λ low. refl };
  served = record { nothing = refl; none_done = refl; ended = λ e. never e };
  read = refl;
  given_back = λ open_yet. record { settled = refl; shared = refl; own = λ stream active goes_on. own_back stream goes_on };
})

-- the clauses hold behind it
pub ended_holds : ClausesHold known (tape_of ended)
ended_holds = clauses known ended (record {
  knows = (((((((((((((((((tt, refl), refl), refl), refl), refl), refl), refl), refl), refl), refl), refl), refl), refl), refl), refl), refl), refl);
  all = ended_leads.allowed;
  answered = (((((((((((((((((tt, tt), tt), tt), tt), tt), tt), tt), tt), tt), tt), tt), tt), tt), tt), tt), tt), tt);
}) ended_rests
