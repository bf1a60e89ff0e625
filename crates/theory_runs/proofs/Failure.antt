-- Another end of the run: the GET's connection fails, and the gateway replies itself, with 502.
use Rattle.std.proofs.Common.{◌≡◌, ℕ, zero, suc, ◌<◌, ◌==◌, ◌&&◌, Bool, true, false, List, [], ◌∷◌, ◌++◌, length, Option, Some, None, refl, sym, ap, subst, inl, inr, arith, get_or}
use Rattle.std.proofs.lemmas.Bool.{eqb-true}
use Rattle.std.specs.Prelude.{codes}
use Rattle.model.specs.Messages.{Field}
use Rattle.model.specs.Messages.Item.{Block}
use Rattle.model.specs.Maxima.{Maxima}
use Rattle.model.specs.Tables.{Table, total_size, static_table, keep, look_up, first_table, added, field_of}
use Rattle.model.specs.Huffman.{Huff, huffman_code, bits, rows, row_codes, codes_from}
use Rattle.model.specs.Logs.Event.{UpFailed}
use Rattle.model.specs.Tapes.{Noted}
use Rattle.model.specs.Tapes.Note.{Fields}
use Rattle.model.specs.Tapes.Entry.{Happened, Sent}
use Rattle.model.specs.Causes.{reply_head}
use Rattle.model.specs.Causes.Cause.{BadAnswer}
use Rattle.header_blocks.specs.Chosen.{GoesIn}
use Rattle.header_blocks.proofs.RawStrings.{one_octet, one_octet_chosen}
use Rattle.header_blocks.proofs.ShortStrings.{huffman_text, few_octets, few_octets_chosen}
use Rattle.theory_errors.specs.Summary.{Stream as Told}
use Rattle.theory_errors.specs.Rows.Slot.{Live, Over}
use Rattle.theory_responses.specs.Outbox.{replied}
use Rattle.theory_responses.specs.Outbox.Part.{Final}
use Rattle.theory_responses.specs.State.{Kept}
use Rattle.theory_receive_windows.specs.State.{}
use Rattle.theory_header_tables.specs.Rule.{IsEncoded}
use Rattle.theory_header_tables.proofs.Searching.{absent, absent_below}
use Rattle.theory_requests.specs.Lines.Answer.{Pending}
use Rattle.theory_requests.specs.Lines.Heard.{Partly}
use Rattle.theory.specs.Moves.{Decision, Move}
use Rattle.theory.specs.Moves.Decision.{Fails, Goes}
use Rattle.theory.specs.Moves.Move.{Does, Settles}
use Rattle.theory.specs.State.{State, tape_of}
use Rattle.theory.specs.Rule.{MayDo, RestsBehind}
use Rattle.theory.specs.Steps.{told_by, Stands, next}
use Rattle.theory_runs.proofs.Steps.{goes, settles, rests}
use Rattle.theory_runs.proofs.Greeting.{setup, frame, never, none_kept}
use Rattle.theory_runs.proofs.Request.{forwarded, one_whole, only_one}
use Rattle.theory_runs.proofs.Answer.{one, ledger_with, at_forwarded, forwarded_leads, forwarded_rest, is_length_name}

-- ---- the moves

-- the fields of the reply, and the tables that they leave
abbrev pub bad : Field
bad = field_of (codes ":status") (codes "502")

abbrev pub empty : Field
empty = field_of (codes "content-length") (codes "0")

abbrev pub with_bad : Table
with_bad = added bad first_table

abbrev pub with_both : Table
with_both = added empty with_bad

-- its HEADERS, which end the stream
abbrev pub reply_block : List ℕ
reply_block = 72 ∷ 130 ∷ 108 ∷ 2 ∷ 92 ∷ 1 ∷ 48 ∷ []

abbrev pub reply_out : Noted
reply_out = record { frame = frame 1 5 1 reply_block; note = Fields (bad ∷ empty ∷ []) }

abbrev pub failed_decision : Decision
failed_decision = Fails (UpFailed 1) 1 Partly

abbrev pub reply_decision : Decision
reply_decision = Goes reply_out (Block (bad ∷ empty ∷ []) true) (Final (reply_head BadAnswer) true) with_both

abbrev pub failed : List Move
failed = Does failed_decision ∷ forwarded

abbrev pub replied_to : List Move
replied_to = Settles ∷ Does reply_decision ∷ failed

-- the tape
pub replied_tape : tape_of replied_to ≡ Sent reply_out ∷ Happened (UpFailed 1) ∷ tape_of forwarded
replied_tape = refl

-- ---- what is kept behind each

-- stream 1, which the gateway answers itself
abbrev pub caused : Told
caused = record (one false) { outline = record { begun = true; declared = None; octets = 0; over = true; cause = Some BadAnswer; head_out = false } }

abbrev pub own_reply : Kept
own_reply = record { id = 1; box = replied BadAnswer; cut = false }

abbrev pub at_failed : State
at_failed = record at_forwarded {
  ledger = ledger_with (record { id = 1; slot = Live caused }) 65535 30;
  offers = record at_forwarded.offers { kept = own_reply ∷ [] };
  requests = record at_forwarded.requests { live = [] };
  windows = record at_forwarded.windows { settled = false };
}

abbrev pub at_replied : State
at_replied = record at_failed {
  ledger = ledger_with (record { id = 1; slot = Over false }) 65535 46;
  offers = record { kept = []; last = 1 };
  tables = record at_failed.tables { encoding = record at_failed.tables.encoding { table = with_both } };
  windows = at_failed.windows;
}

-- ---- the block

-- the value begins with a 5 and ends with a 2
abbrev is_bad : Field → Bool
is_bad field = get_or field.value 0 0 == 53 && get_or field.value 2 0 == 50

-- the third octet of the name is a t
abbrev is_status_name : List ℕ → Bool
is_status_name name = get_or name 2 0 == 116

bad_nowhere : (index : ℕ) → look_up first_table index ≡ Some bad → ⊥
unfolding static_table
bad_nowhere zero is = let clash : ◌≡◌ {A = Option Field} None (Some bad) = is in cc
bad_nowhere (suc place) is = absent is_bad bad refl (static_table ++ []) refl place is

pub status_named_above : (index : ℕ) (other : Field) → index < 8 → look_up first_table index ≡ Some other → other.name ≡ bad.name → ⊥
unfolding static_table
status_named_above zero other lt is same = let clash : ◌≡◌ {A = Option Field} None (Some other) = is in cc
status_named_above (suc place) other lt is same = absent_below (λ (e : Field). is_status_name e.name) other (ap is_status_name same) 7 (static_table ++ []) refl place (omega (arith, lt)) is

empty_nowhere : (index : ℕ) → look_up with_bad index ≡ Some empty → ⊥
unfolding static_table keep
empty_nowhere zero is = let clash : ◌≡◌ {A = Option Field} None (Some empty) = is in cc
empty_nowhere (suc place) is = absent (λ (e : Field). is_length_name e.name && length e.value == 1) empty refl (static_table ++ with_bad.fields) refl place is

length_named_above : (index : ℕ) (other : Field) → index < 28 → look_up with_bad index ≡ Some other → other.name ≡ empty.name → ⊥
unfolding static_table keep
length_named_above zero other lt is same = let clash : ◌≡◌ {A = Option Field} None (Some other) = is in cc
length_named_above (suc place) other lt is same = absent_below (λ (e : Field). is_length_name e.name) other (ap is_length_name same) 27 (static_table ++ with_bad.fields) refl place (omega (arith, lt)) is

-- the status in the Huffman code, which is shorter than it
bad_text : Huff (108 ∷ 2 ∷ []) (codes "502")
unfolding huffman_code codes_from row_codes rows bits
bad_text = huffman_text (108 ∷ 2 ∷ []) (codes "502") 0 refl (omega arith) refl

-- both fields go into the table, each with the name of an entry
pub bad_inserted : GoesIn true first_table (72 ∷ 130 ∷ 108 ∷ 2 ∷ []) bad with_bad
unfolding static_table
bad_inserted = record {
  absent = bad_nowhere;
  inserted = record {
    literal = record {
      index = 8;
      index_octets = 72 ∷ [];
      name_octets = [];
      value_octets = 130 ∷ 108 ∷ 2 ∷ [];
      is = refl;
      marked = record { int = inl (record { first = 72; is = refl; low_bits = refl; not_ones = omega arith }); marked = refl };
      name = inr (record { is_empty = refl; entry = field_of (codes ":status") (codes "200"); found = refl; same = refl });
      string = inr (few_octets (108 ∷ 2 ∷ []) (codes "502") (omega arith) bad_text);
    };
    inserted = refl;
  };
  name = inl (record { entry = field_of (codes ":status") (codes "200"); here = refl; named = refl; least = status_named_above });
  is_indexing = refl;
  fits = omega arith;
  strings = record {
    name = λ is_zero. absurd (let clash : 8 ≡ 0 = is_zero in omega (arith, clash));
    value = few_octets_chosen (108 ∷ 2 ∷ []) (codes "502") (omega arith) (omega arith) bad_text;
  };
}

pub empty_inserted : GoesIn true with_bad (92 ∷ 1 ∷ 48 ∷ []) empty with_both
unfolding static_table keep
empty_inserted = record {
  absent = empty_nowhere;
  inserted = record {
    literal = record {
      index = 28;
      index_octets = 92 ∷ [];
      name_octets = [];
      value_octets = 1 ∷ 48 ∷ [];
      is = refl;
      marked = record { int = inl (record { first = 92; is = refl; low_bits = refl; not_ones = omega arith }); marked = refl };
      name = inr (record { is_empty = refl; entry = field_of (codes "content-length") []; found = refl; same = refl });
      string = inl (one_octet 48);
    };
    inserted = refl;
  };
  name = inl (record { entry = field_of (codes "content-length") []; here = refl; named = refl; least = length_named_above });
  is_indexing = refl;
  fits = omega arith;
  strings = record { name = λ is_zero. absurd (let clash : 28 ≡ 0 = is_zero in omega (arith, clash)); value = one_octet_chosen 48 };
}

pub reply_encoded : IsEncoded at_failed.tables.encoding (record { id = 1; ends = true; fragments = reply_block }) (Fields (bad ∷ empty ∷ [])) with_both
reply_encoded = record {
  fields = bad ∷ empty ∷ [];
  is_noted = refl;
  encodes = record {
    maxima = [];
    is_block = record {
      front = [];
      rest = reply_block;
      between = first_table;
      is = refl;
      are_maxima = (refl, refl);
      are_fields = (72 ∷ 130 ∷ 108 ∷ 2 ∷ [], 92 ∷ 1 ∷ 48 ∷ [], with_bad, refl, inr (inl bad_inserted.inserted), (92 ∷ 1 ∷ 48 ∷ [], [], with_both, refl, inr (inl empty_inserted.inserted), (refl, refl)));
    };
    due = λ limits none. subst (λ l. Maxima 4096 l []) (sym none) refl;
    chosen = (72 ∷ 130 ∷ 108 ∷ 2 ∷ [], 92 ∷ 1 ∷ 48 ∷ [], with_bad, refl, inr (inl bad_inserted), (92 ∷ 1 ∷ 48 ∷ [], [], with_both, refl, inr (inl empty_inserted), (refl, refl)));
  };
}

-- ---- each may come

pub failed_may : MayDo setup (told_by at_forwarded) (told_by at_failed) at_forwarded failed_decision
unfolding total_size
failed_may = record {
  rests = λ e. forwarded_rest;
  conduct = record { allowed = record { open_yet = refl; turn = record { nothing = refl; none_begun = refl; goes_on = refl } }; fit = λ e. refl };
  offer = (forwarded_rest.flushed, record { is_given = refl; active = refl; no_cause = refl }, refl);
  in_turn = tt;
  request = record { open_yet = refl; may = (record { nothing = refl; none_done = refl; goes_on = refl }, (record { k = 1; route = 0; stream = 1; answer = Pending }, refl)) };
  additions = tt;
  calls = λ so. absurd (let no : false ≡ true = so in cc);
  table = tt;
  window = (forwarded_rest.given_back refl, record { settled = refl; admitted = refl });
}

pub reply_may : MayDo setup (told_by at_failed) (told_by at_replied) at_failed reply_decision
unfolding total_size
reply_may = record {
  rests = λ e. never e;
  conduct = record { allowed = record { open_yet = refl; turn = inr (inl (record { nothing = refl; goes_on = refl; passing = refl; rightly = refl })) }; fit = refl };
  offer = (
    record {
      kept = own_reply;
      found = refl;
      not_cut = refl;
      next = (refl, (refl, refl));
      is = (refl, record { digits = codes "502"; is = refl; three = refl; are_digits = refl; status = refl; no_other = refl }, omega arith);
      turn = inl (record { is_ready = (0, omega arith, refl); above = omega arith; least = λ k lt some. some });
      own = λ is_data. let clash : 1 ≡ 0 = is_data in absurd (omega (arith, clash));
      shared = λ is_data. let clash : 1 ≡ 0 = is_data in absurd (omega (arith, clash));
    },
    record { active = refl; brings = refl },
  );
  in_turn = λ begins. record {
    none_cut = λ stream kept found. one_whole (1 == stream) own_reply kept refl found;
    turn = inl (record { is_ready = (0, omega arith, refl); above = omega arith; least = λ k lt some. some });
  };
  request = record { open_yet = refl; may = inl refl };
  additions = tt;
  calls = λ so. absurd (let no : false ≡ true = so in cc);
  table = record { together = refl; is_given = reply_encoded };
  window = record { kind = refl; over_with_it = refl };
}

-- ---- so the run is allowed, and rests

pub replied_leads : Stands setup replied_to (next setup at_replied Settles)
replied_leads =
    let first = goes setup forwarded at_forwarded forwarded_leads failed_decision at_failed refl refl failed_may in
    settles setup (Does reply_decision ∷ failed) at_replied (goes setup failed at_failed first reply_decision at_replied refl refl reply_may)

pub replied_rests : RestsBehind setup replied_to
replied_rests = rests setup replied_to (next setup at_replied Settles) replied_leads (record {
  conduct = record { nothing = refl; none_begun = refl; ended = λ e. never e };
  flushed = record { none_cut = λ low stream kept found. none_kept found; none_ready = λ low. refl };
  served = record { nothing = refl; none_done = refl; ended = λ e. never e };
  read = refl;
  given_back = λ open_yet. record { settled = refl; shared = refl; own = λ stream active goes_on. subst (λ (id : ℕ). ((next setup at_replied Settles).windows.row id).debt ≡ 0) (eqb-true 1 stream (only_one (1 == stream) _ active)) refl };
})
