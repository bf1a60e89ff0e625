-- A run by the rules of `theory_errors`, of what is on offer and of the tables at once: a GET that no route takes is answered with 404,
-- which inserts a field, and the connection is in step behind it.
use Rattle.std.proofs.Common.{◌≡◌, ℕ, zero, suc, ◌<◌, ◌≤◌, ◌==◌, ◌&&◌, Bool, true, false, if◌then◌else◌, List, [], ◌∷◌, ◌++◌, map, length, Some, None, Option, refl, ap, sym, ◌∙◌, subst, inl, inr, arith, get_or}
use Rattle.std.specs.Prelude.{codes, slice_index}
use Rattle.model.specs.Messages.{Field}
use Rattle.model.specs.Messages.Item.{Block}
use Rattle.model.specs.Tables.{Table, total_size, static_table, keep, look_up, first_table, added, field_of}
use Rattle.model.specs.Frames.{Frame, headers_kind, settings_kind, settings_frame, settings_ack}
use Rattle.model.specs.Setup.Policy.{Indexing}
use Rattle.model.specs.Setup.Passing.{Whole}
use Rattle.model.specs.Tapes.{Noted, Entry}
use Rattle.model.specs.Tapes.Note.{NoBlock, Fields}
use Rattle.model.specs.Openings.{exchanges, AreApart}
use Rattle.model.specs.Available.{IsIn}
use Rattle.model.specs.Known.{Known}
use Rattle.model.specs.Causes.{reply_head}
use Rattle.model.specs.Causes.Cause.{NoRoute}
use Rattle.model.specs.Maxima.{Maxima}
use Rattle.model.specs.Synchrony.{InStep}
use Rattle.header_blocks.specs.Encoding.{first_encoding}
use Rattle.header_blocks.specs.Chosen.{GoesAsIndex, GoesIn}
use Rattle.header_blocks.specs.Encodes.{IsWrittenBy}
use Rattle.header_blocks.proofs.RawStrings.{one_octet, one_octet_chosen}
use Rattle.theory_errors.specs.Turn.{Conducted}
use Rattle.theory_responses.specs.Outbox.{replied}
use Rattle.theory_responses.specs.Outbox.Part.{Final}
use Rattle.theory_responses.specs.State.{Kept, Change, Move as Offer, entry_of as offered, state_of as offer_of, find}
use Rattle.theory_responses.specs.State.Move.{Takes as Hears, Goes, Sends as Gives}
use Rattle.theory_responses.specs.Policy.{Neighbours, AreAllowed}
use Rattle.theory_header_tables.specs.Spelling.{block_of}
use Rattle.theory_header_tables.specs.State.{Move, tape_of}
use Rattle.theory_header_tables.specs.State.Move.{Takes, Sends}
use Rattle.theory_header_tables.specs.Rule.{AllFit}
use Rattle.theory_header_tables.specs.Kept.{AllJudged}
use Rattle.theory_header_tables.specs.Turns.{EachBegan}
use Rattle.theory_header_tables.proofs.Searching.{absent, absent_below}
use Rattle.theory_header_tables.proofs.Requests.{frame, completes, settled, request, decoded, request_read}
use Rattle.theory_header_tables.proofs.Synced.{in_step_by}

-- one route, for another authority
abbrev elsewhere : Known
elsewhere = record {
  setup = record { routes = record { authority = codes "b"; path = codes "/" } ∷ []; policy = Indexing; passing = Whole; max_body = 1048576; max_response = 1048576; keep = false; most_idle = 8; more_room = 0 };
  failures = [];
}

-- ---- the entries

-- a frame that completes no block
abbrev plain : Frame → Noted
plain f = record { frame = f; note = NoBlock }

-- the request
abbrev asks : Noted
asks = record { frame = frame headers_kind 5 1 (130 ∷ 134 ∷ 132 ∷ 65 ∷ 1 ∷ 97 ∷ []); note = Fields request }

-- the fields of the answer
abbrev missing : Field
missing = field_of (codes ":status") (codes "404")

-- the second of them
abbrev empty : Field
empty = field_of (codes "content-length") (codes "0")

-- the answer
abbrev answers : Noted
answers = record { frame = frame headers_kind 5 1 (141 ∷ 92 ∷ 1 ∷ 48 ∷ []); note = Fields (missing ∷ empty ∷ []) }

-- the table that it leaves
abbrev encoded : Table
encoded = added empty first_table

-- ---- the moves

-- the moves of the tables, the newest first
abbrev moves : List Move
moves =
    Sends answers None encoded
    ∷ Takes asks (completes (block_of 1 true (130 ∷ 134 ∷ 132 ∷ 65 ∷ 1 ∷ 97 ∷ []))) decoded
    ∷ Sends (plain settings_ack) None first_table
    ∷ Takes (plain (frame settings_kind 0 0 [])) settled first_table
    ∷ Sends (plain (settings_frame 0)) None first_table
    ∷ []

-- a frame that changes nothing of what is on offer
abbrev no_change : Change
no_change = record { opens = false; over = false; caused = None }

-- the same moves, as what is on offer has them: settings, and their acknowledgement
abbrev greeted : List Offer
greeted = Gives (plain settings_ack) ∷ Hears (plain (frame settings_kind 0 0 [])) no_change ∷ Gives (plain (settings_frame 0)) ∷ []

-- the request, which no route takes
abbrev asked : List Offer
asked = Hears asks (record { opens = true; over = false; caused = Some NoRoute }) ∷ greeted

-- and its answer
abbrev offers : List Offer
offers = Goes answers (Block (missing ∷ empty ∷ []) true) (Final (reply_head NoRoute) true) true ∷ asked

same_tape : tape_of moves ≡ map offered offers
same_tape = refl

-- ---- by conduct

conducted : Conducted elsewhere (tape_of moves)
unfolding total_size
conducted = (
  (
    (
      (
        (tt, record { open_yet = refl; turn = inl (record { front = refl; control = refl; owing = refl; calm = refl }) }),
        record { open_yet = refl; turn = record { nothing = refl; none_begun = refl; goes_on = refl } },
      ),
      record { open_yet = refl; turn = inl (record { front = refl; control = refl; owing = refl; calm = refl }) },
    ),
    record { open_yet = refl; turn = record { nothing = refl; none_begun = refl; goes_on = refl } },
  ),
  record { open_yet = refl; turn = inr (inl (record { nothing = refl; goes_on = refl; passing = refl; rightly = refl })) },
)

-- ---- by the tables

judged : AllJudged moves
judged = (((((tt, refl), record { error = refl; taken = refl; block = refl }), refl), record { error = refl; taken = refl; block = refl }), refl)

-- the status begins and ends with a 4
abbrev is_missing : Field → Bool
is_missing field = get_or field.value 0 0 == 52 && get_or field.value 2 0 == 52

status_indexed : GoesAsIndex true first_table (141 ∷ []) missing first_table
unfolding static_table
status_indexed = record {
  indexed = record { index = 13; marked = record { int = inl (record { first = 141; is = refl; low_bits = refl; not_ones = omega arith }); marked = refl }; found = refl; same = refl };
  least = record { here = refl; least = lower };
}
  where
    lower : (index : ℕ) → index < 13 → look_up first_table index ≡ Some missing → ⊥
    lower zero lt is = let clash : ◌≡◌ {A = Option Field} None (Some missing) = is in cc
    lower (suc place) lt is = absent_below is_missing missing refl 12 (static_table ++ []) refl place (omega (arith, lt)) is

-- the name begins with a c and has 14 octets
abbrev is_length_name : List ℕ → Bool
is_length_name name = get_or name 0 0 == 99 && length name == 14

length_inserted : GoesIn true first_table (92 ∷ 1 ∷ 48 ∷ []) empty encoded
unfolding static_table keep
length_inserted = record {
  absent = nowhere;
  inserted = record {
    literal = record {
      index = 28;
      index_octets = 92 ∷ [];
      name_octets = [];
      value_octets = 1 ∷ 48 ∷ [];
      is = refl;
      marked = record { int = inl (record { first = 92; is = refl; low_bits = refl; not_ones = omega arith }); marked = refl };
      name = inr (record { is_empty = refl; entry = field_of (codes "content-length") []; found = refl; same = refl });
      string = inl (one_octet 48);
    };
    inserted = refl;
  };
  name = inl (record { entry = field_of (codes "content-length") []; here = refl; named = refl; least = lower });
  is_indexing = refl;
  fits = omega arith;
  strings = record { name = λ is_zero. absurd (let clash : 28 ≡ 0 = is_zero in omega (arith, clash)); value = one_octet_chosen 48 };
}
  where
    nowhere : (index : ℕ) → look_up first_table index ≡ Some empty → ⊥
    nowhere zero is = let clash : ◌≡◌ {A = Option Field} None (Some empty) = is in cc
    nowhere (suc place) is = absent (λ (e : Field). is_length_name e.name && length e.value == 1) empty refl (static_table ++ []) refl place is

    lower : (index : ℕ) (other : Field) → index < 28 → look_up first_table index ≡ Some other → other.name ≡ empty.name → ⊥
    lower zero other lt is same = let clash : ◌≡◌ {A = Option Field} None (Some other) = is in cc
    lower (suc place) other lt is same = absent_below (λ (e : Field). is_length_name e.name) other (ap is_length_name same) 27 (static_table ++ []) refl place (omega (arith, lt)) is

answer_encoded : IsWrittenBy (first_encoding true) (missing ∷ empty ∷ []) encoded (141 ∷ 92 ∷ 1 ∷ 48 ∷ [])
answer_encoded = record {
  maxima = [];
  is_block = record {
    front = [];
    rest = 141 ∷ 92 ∷ 1 ∷ 48 ∷ [];
    between = first_table;
    is = refl;
    are_maxima = (refl, refl);
    are_fields = (141 ∷ [], 92 ∷ 1 ∷ 48 ∷ [], first_table, refl, inl status_indexed.indexed, (92 ∷ 1 ∷ 48 ∷ [], [], encoded, refl, inr (inl length_inserted.inserted), (refl, refl)));
  };
  due = λ limits none. subst (λ l. Maxima 4096 l []) (sym none) refl;
  chosen = (141 ∷ [], 92 ∷ 1 ∷ 48 ∷ [], first_table, refl, inl status_indexed, (92 ∷ 1 ∷ 48 ∷ [], [], encoded, refl, inr (inl length_inserted), (refl, refl)));
}

fit : AllFit Indexing moves
fit = (
  (
    (((tt, record { together = refl; is_given = refl }), record { is_noted = refl }), record { together = refl; is_given = refl }),
    record { is_noted = request_read },
  ),
  record { together = refl; is_given = record { fields = missing ∷ empty ∷ []; is_noted = refl; encodes = answer_encoded } },
)

-- ---- by what is on offer

no_neighbours : (t : List Entry) → exchanges t ≡ [] → Neighbours elsewhere t
no_neighbours t e = record { counted = λ o i. absurd (subst (IsIn o) e i); apart = subst AreApart (sym e) tt; begun = λ o i. absurd (subst (IsIn o) e i) }

least : (k : ℕ) → k < 1 → 0 < slice_index (1 ∷ []) k → 1 ≤ slice_index (1 ∷ []) k
least k lt some = some

allowed : AreAllowed elsewhere offers
unfolding total_size
allowed = (
  (
    (
      (
        (tt, no_neighbours [] refl, record { no_block = refl; no_data = refl }),
        no_neighbours (map offered (Gives (plain (settings_frame 0)) ∷ [])) refl,
        record { opened = refl; caused = λ active. record { cause = refl; out = refl; heads = refl } },
      ),
      no_neighbours (map offered (Hears (plain (frame settings_kind 0 0 [])) no_change ∷ Gives (plain (settings_frame 0)) ∷ [])) refl,
      record { no_block = refl; no_data = refl },
    ),
    no_neighbours (map offered greeted) refl,
    record {
      opened = (record { not_kept = refl; unsent = refl; not_given = λ o g. g.is_opened; no_cause = refl }, refl, refl);
      caused = λ active. record { no_cause = refl; now = refl };
    },
  ),
  no_neighbours (map offered asked) refl,
  (
    record {
      kept = record { id = 1; box = replied NoRoute; cut = false };
      found = refl;
      not_cut = refl;
      next = (refl, (refl, refl));
      is = (refl, record { digits = codes "404"; is = refl; three = refl; are_digits = refl; status = refl; no_other = refl }, omega arith);
      turn = inl (record { is_ready = (0, omega arith, refl); above = omega arith; least = least });
      own = λ is_data. let clash : 1 ≡ 0 = is_data in absurd (omega (arith, clash));
      shared = λ is_data. let clash : 1 ≡ 0 = is_data in absurd (omega (arith, clash));
    },
    record { active = refl; brings = refl },
  ),
)

began : EachBegan offers
unfolding total_size
began = (
  (
    (((tt, λ begins. let clash : false ≡ true = begins in cc), tt), λ begins. let clash : false ≡ true = begins in cc),
    tt,
  ),
  λ begins. record { none_cut = none_cut; turn = inl (record { is_ready = (0, omega arith, refl); above = omega arith; least = least }) },
)
  where
    by : (b : Bool) (one kept : Kept) → one.cut ≡ false → (if b then Some one else None) ≡ Some kept → kept.cut ≡ false
    by true one kept whole is = let same : one ≡ kept = cc in ap (λ (k : Kept). k.cut) (sym same) ∙ whole
    by false one kept whole is = let clash : ◌≡◌ {A = Option Kept} None (Some kept) = is in cc

    none_cut : (stream : ℕ) (kept : Kept) → find stream (offer_of asked).kept ≡ Some kept → kept.cut ≡ false
    none_cut stream kept is = by (1 == stream) (record { id = 1; box = replied NoRoute; cut = false }) kept refl is

-- ---- so the connection is in step

pub run_in_step : InStep elsewhere (tape_of moves) encoded decoded
run_in_step = in_step_by elsewhere moves offers same_tape conducted judged fit refl allowed began
