-- The run goes on: a GET opens stream 1, goes out on a connection to its upstream, and the gateway rests.
use Rattle.std.proofs.Common.{◌≡◌, ℕ, ◌==◌, ◌&&◌, ◌||◌, Bool, true, false, if◌then◌else◌, List, [], ◌∷◌, Option, Some, None, refl, sym, ◌∙◌, ap, subst, inl, arith}
use Rattle.std.proofs.lemmas.Bool.{eqb-true}
use Rattle.std.specs.Prelude.{codes}
use Rattle.model.specs.Setup.{IsFirstMatch}
use Rattle.model.specs.Tables.{total_size}
use Rattle.model.specs.Logs.Act.{Open, ToUp}
use Rattle.model.specs.Tapes.{Noted}
use Rattle.model.specs.Tapes.Note.{Fields}
use Rattle.model.specs.Tapes.Entry.{Came, Did}
use Rattle.h1_writer.specs.Sending.Stage.{Whole}
use Rattle.theory_responses.specs.Outbox.{silent}
use Rattle.theory_responses.specs.State.{Kept}
use Rattle.theory_header_tables.proofs.Requests.{request, decoded, request_read}
use Rattle.theory.specs.Moves.{Decision, Move}
use Rattle.theory.specs.Moves.Addition.{Begins}
use Rattle.theory.specs.Moves.Decision.{Takes, Acts}
use Rattle.theory.specs.Moves.Move.{Does, Settles}
use Rattle.theory.specs.State.{tape_of, state_of}
use Rattle.theory.specs.Rule.{AllAllowed, RestsBehind}
use Rattle.theory_runs.proofs.Greeting.{setup, frame, May, never, greeted, greeted_allowed, greeted_rests}

-- ---- the moves

-- the request
abbrev pub asks : Noted
asks = record { frame = frame 1 5 1 (130 ∷ 134 ∷ 132 ∷ 65 ∷ 1 ∷ 97 ∷ []); note = Fields request }

-- its text
abbrev pub request_text : List ℕ
request_text = codes "GET / HTTP/1.1\r\nhost: a\r\nvia: 2.0 h2gw\r\nconnection: close\r\n\r\n"

abbrev pub asked_decision : Decision
asked_decision = Takes asks decoded (Begins request true 0 request_text Whole)

abbrev pub asked : List Move
asked = Does asked_decision ∷ greeted

abbrev pub connected : List Move
connected = Does (Acts (Open 1 0)) ∷ asked

abbrev pub forwarded : List Move
forwarded = Settles ∷ Does (Acts (ToUp 1 request_text)) ∷ connected

-- the tape
pub forwarded_tape : tape_of forwarded ≡ Did (ToUp 1 request_text) ∷ Did (Open 1 0) ∷ Came asks ∷ tape_of greeted
forwarded_tape = refl

-- ---- each may come

-- the one route matches
pub first_route : IsFirstMatch setup.routes (codes "a") (codes "/") 0
first_route = record { route = record { authority = []; path = codes "/" }; found = refl; matches = (inl refl, inl (record { rest = []; is = refl })); none_before = λ earlier before. absurd (omega (arith, before)) }

asked_may : May greeted asked_decision
unfolding total_size
asked_may = record {
  rests = λ e. greeted_rests;
  conduct = record { allowed = record { open_yet = refl; turn = record { nothing = refl; none_begun = refl; goes_on = refl } }; fit = λ fine completes. refl };
  offer = (greeted_rests.flushed, refl, refl);
  in_turn = tt;
  request = record {
    open_yet = refl;
    may = (
      record { nothing = refl; none_done = refl; goes_on = refl },
      record {
        serving = record { counted = omega arith; served = refl; goes_on = refl };
        by_route = first_route;
        sending = record { none_ended = λ e. (refl, refl); full = refl; has_length = tt; is = refl };
        whole = refl;
      },
    );
  };
  additions = record { first = refl; adds = record { adds = refl; goes_on = refl } };
  calls = λ so. absurd (let no : false ≡ true = so in cc);
  table = record { is_noted = request_read };
  window = record { nothing = greeted_rests.given_back refl; goes_on = refl; opens_it = refl; lives = λ e. refl; over_with_it = refl };
}

connected_may : May asked (Acts (Open 1 0))
unfolding total_size
connected_may = record {
  rests = λ e. never e;
  conduct = record { allowed = record { open_yet = refl; turn = refl }; fit = tt };
  offer = record { active = refl; has_items = refl; no_cause = refl; first = tt; counted = omega arith };
  in_turn = tt;
  request = record { open_yet = refl; may = record { stream = 1; text = request_text; stage = Whole; due = refl; next = refl } };
  additions = tt;
  calls = λ so. absurd (let no : false ≡ true = so in cc);
  table = tt;
  window = record { active = refl; counted = omega arith; first = refl; unused = refl; untaken = refl };
}

forwarded_may : May connected (Acts (ToUp 1 request_text))
unfolding total_size
forwarded_may = record {
  rests = λ e. never e;
  conduct = record { allowed = record { open_yet = refl; turn = refl }; fit = tt };
  offer = λ begins. absurd (let no : false ≡ true = begins in cc);
  in_turn = tt;
  request = record { open_yet = refl; may = inl refl };
  additions = tt;
  calls = λ so. absurd (let no : false ≡ true = so in cc);
  table = tt;
  window = record { opened = refl; its = refl; in_effect = λ e. cc };
}

-- ---- so the run is allowed, and rests

pub forwarded_allowed : AllAllowed setup forwarded
forwarded_allowed = (((greeted_allowed, asked_may), connected_may), forwarded_may)

-- one stream is kept, of which no reset is owed
pub one_whole : (b : Bool) (one kept : Kept) → one.cut ≡ false → (if b then Some one else None) ≡ Some kept → kept.cut ≡ false
one_whole true one kept whole found = let same : one ≡ kept = cc in ap (λ (k : Kept). k.cut) (sym same) ∙ whole
one_whole false one kept whole found = let clash : ◌≡◌ {A = Option Kept} None (Some kept) = found in cc

-- the one stream that was opened, where it is active
pub only_one : (b c : Bool) → ((b || false) && c) ≡ true → b ≡ true
only_one true c e = refl
only_one false c e = e

pub forwarded_rests : RestsBehind setup forwarded
unfolding total_size
forwarded_rests = record {
  conduct = record { nothing = refl; none_begun = refl; ended = λ e. never e };
  flushed = record { none_cut = λ low stream kept found. one_whole (1 == stream) (record { id = 1; box = silent; cut = false }) kept refl found; none_ready = λ low. refl };
  served = record { nothing = refl; none_done = refl; ended = λ e. never e };
  read = refl;
  given_back = λ open_yet. record { settled = refl; shared = refl; own = λ stream active goes_on. subst (λ (id : ℕ). ((state_of setup forwarded).windows.row id).debt ≡ 0) (eqb-true 1 stream (only_one (1 == stream) _ active)) refl };
}
