-- A worked run: a GET that no route takes is answered with 404 in its turn, and all clauses hold behind it. Who is ready of
-- four streams. And what outboxes hold.
use Rattle.std.proofs.Common.{◌≡◌, ℕ, ◌+◌, ◌<◌, ◌≤◌, true, false, List, [], ◌∷◌, map, reverse, refl, sym, ap, ◌∙◌, subst, inl, arith, pos, nat_lt, if◌then◌else◌}
use Rattle.std.specs.Prelude.{Option, Some, None, filter, codes, slice_index}
use Rattle.model.specs.Tables.{total_size}
use Rattle.model.specs.Messages.{Field}
use Rattle.model.specs.Messages.Item.{Block, Content}
use Rattle.model.specs.Frames.{Frame, settings_frame, settings_ack}
use Rattle.model.specs.Setup.Policy.{Plain}
use Rattle.model.specs.Setup.Passing.{Whole}
use Rattle.model.specs.Tapes.{Noted, Entry}
use Rattle.model.specs.Tapes.Entry.{Happened, Sent}
use Rattle.model.specs.Logs.Event.{Up}
use Rattle.model.specs.ResponseHeads.{Head}
use Rattle.model.specs.Lifetimes.{active}
use Rattle.model.specs.WindowsOnTape.{is_on, data_octets}
use Rattle.model.specs.Tapes.Note.{NoBlock, Fields}
use Rattle.model.specs.Openings.{exchanges, AreApart}
use Rattle.model.specs.Available.{items_on, IsIn}
use Rattle.model.specs.Known.{Known}
use Rattle.model.specs.Causes.{reply_head}
use Rattle.model.specs.Causes.Cause.{NoRoute}
use Rattle.theory_responses.specs.Outbox.{silent, replied, left, part_of, can_go}
use Rattle.theory_responses.specs.Outbox.Outbox.{Before, Behind}
use Rattle.theory_responses.specs.Outbox.Part.{Early, Final, Octets, Trailing}
use Rattle.theory_responses.specs.State.{Kept, State, Windows, Change, Move, find, can_turn, ready, entry_of, state_of}
use Rattle.theory_responses.specs.State.Move.{Takes, Goes, Sends}
use Rattle.theory_errors.specs.Summary.{summary_of}
use Rattle.theory_responses.specs.Policy.{Neighbours, windows_on, AreAllowed, MayGo, IsFlushed, KeepClauses}
use Rattle.theory_responses.specs.Sight.{sight_in, windows_in}
use Rattle.theory_responses.specs.Held.{octets_in, octets_held, FitRooms, AreUnpadded}
use Rattle.theory_responses.specs.Rule.{Seen, sight_of, AllMayCome}
use Rattle.theory_responses.proofs.Flushing.{clauses_hold}

-- ---- who is ready

-- One stream has a head to send, one octets and no window, one octets and a window, one nothing.
abbrev pub four : State
four = record {
  kept = record { id = 1; box = replied NoRoute; cut = false }
      ∷ record { id = 3; box = Behind (7 ∷ []) None; cut = false }
      ∷ record { id = 5; box = Behind (7 ∷ 8 ∷ []) (Some []); cut = false }
      ∷ record { id = 7; box = silent; cut = false }
      ∷ [];
  last = 1;
}

-- the windows of the last two are above 0, and the connection's is
abbrev pub windows : Windows
windows = record { own = λ id. if nat_lt 3 id then pos 9 else pos 0; shared = pos 5; untaken = 0 }

two_ready : ready windows four ≡ 1 ∷ 5 ∷ []
two_ready = refl

-- ---- a run

-- one route, for another authority
abbrev pub elsewhere : Known
elsewhere = record {
  setup = record { routes = record { authority = codes "a.example"; path = codes "/" } ∷ []; policy = Plain; passing = Whole; max_body = 1048576; max_response = 1048576; keep = false; most_idle = 8; more_room = 0 };
  failures = [];
}

-- a frame by its parts
abbrev pub frame : ℕ → ℕ → ℕ → List ℕ → Frame
frame kind flags id payload = record { kind = kind; flags = flags; id = id; payload = payload }

-- a field by its name and value
abbrev pub field : List ℕ → List ℕ → Field
field name value = record { name = name; value = value }

-- the fields of a request
abbrev pub get : List Field
get = field (codes ":method") (codes "GET") ∷ field (codes ":scheme") (codes "http") ∷ field (codes ":path") (codes "/") ∷ field (codes ":authority") (codes "www.example.com") ∷ []

-- a frame that completes no header block
abbrev pub plain : Frame → Noted
plain f = record { frame = f; note = NoBlock }

-- a frame that changes nothing
abbrev pub no_change : Change
no_change = record { opens = false; over = false; caused = None }

-- the fields of the reply
abbrev pub not_found : List Field
not_found = field (codes ":status") (codes "404") ∷ field (codes "content-length") (codes "0") ∷ []

-- the gateway's settings, the client's, and their acknowledgement
abbrev pub greeted : List Move
greeted = Sends (plain settings_ack) ∷ Takes (plain (frame 4 0 0 [])) no_change ∷ Sends (plain (settings_frame 0)) ∷ []

-- the request opens stream 1, and no route takes it
abbrev pub asked : List Move
asked = Takes (record { frame = frame 1 5 1 []; note = Fields get }) (record { opens = true; over = false; caused = Some NoRoute }) ∷ greeted

-- its reply
abbrev pub reply_noted : Noted
reply_noted = record { frame = frame 1 5 1 []; note = Fields not_found }

-- that goes out, and the stream is over
abbrev pub answered : List Move
answered = Goes reply_noted (Block not_found true) (Final (reply_head NoRoute) true) true ∷ asked

no_neighbours : (t : List Entry) → exchanges t ≡ [] → Neighbours elsewhere t
no_neighbours t e = record { counted = λ o i. absurd (subst (IsIn o) e i); apart = subst AreApart (sym e) tt; begun = λ o i. absurd (subst (IsIn o) e i) }

-- each of the first three moves is allowed
greeted_allowed : AreAllowed elsewhere greeted
unfolding total_size
greeted_allowed = (
  (
    (tt, no_neighbours [] refl, record { no_block = refl; no_data = refl }),
    no_neighbours (map entry_of (Sends (plain (settings_frame 0)) ∷ [])) refl,
    record {
      opened = refl;
      caused = λ a. record { cause = refl; out = refl; heads = refl };
    },
  ),
  no_neighbours (map entry_of (Takes (plain (frame 4 0 0 [])) no_change ∷ Sends (plain (settings_frame 0)) ∷ [])) refl,
  record { no_block = refl; no_data = refl },
)

-- so is the request
asked_allowed : AreAllowed elsewhere asked
unfolding total_size
asked_allowed = (
  greeted_allowed,
  no_neighbours (map entry_of greeted) refl,
  record {
    opened = (record { not_kept = refl; unsent = refl; not_given = λ o g. g.is_opened; no_cause = refl }, refl, refl);
    caused = λ a. record { no_cause = refl; now = refl };
  },
)

-- and its reply, whose turn it is
reply_goes : (windows : Windows) → MayGo windows (state_of asked) reply_noted (Block not_found true) (Final (reply_head NoRoute) true)
unfolding total_size
reply_goes windows = record {
  kept = record { id = 1; box = replied NoRoute; cut = false };
  found = refl;
  not_cut = refl;
  next = (refl, (refl, refl));
  is = (refl, record { digits = codes "404"; is = refl; three = refl; are_digits = refl; status = refl; no_other = refl }, omega arith);
  turn = inl (record { is_ready = (0, omega arith, refl); above = omega arith; least = least });
  own = λ is_data. let clash : 1 ≡ 0 = is_data in absurd (omega (arith, clash));
  shared = λ is_data. let clash : 1 ≡ 0 = is_data in absurd (omega (arith, clash));
}
  where
    least : (k : ℕ) → k < 1 → 0 < slice_index (1 ∷ []) k → 1 ≤ slice_index (1 ∷ []) k
    least k lt some = some

all_allowed : AreAllowed elsewhere answered
unfolding total_size
all_allowed = (asked_allowed, no_neighbours (map entry_of asked) refl, (reply_goes (windows_on (map entry_of asked)), record { active = refl; brings = refl }))

all_flushed : IsFlushed (windows_on (map entry_of answered)) (state_of answered)
unfolding total_size
all_flushed = record { none_cut = λ low stream kept found. let clash : ◌≡◌ {A = Option Kept} None (Some kept) = found in cc; none_ready = λ low. refl }

-- The clauses hold behind it.
pub not_found_holds : KeepClauses elsewhere (map entry_of answered)
not_found_holds = clauses_hold elsewhere answered all_allowed (no_neighbours (map entry_of answered) refl) all_flushed

-- ---- the same by states alone

-- a run with what the summary of its tape tells
abbrev pub seen : List Move → List Seen
seen [] = []
seen (m ∷ ms) = record { move = m; sight = sight_in (summary_of elsewhere (map entry_of (m ∷ ms))) } ∷ seen ms

-- where nobody is kept the flush is done
nobody_waits : (ms : List Move) → (state_of ms).kept ≡ [] → IsFlushed (windows_in (sight_of (seen ms))) (state_of ms)
nobody_waits ms none = record {
  none_cut = λ low stream kept found. let clash : ◌≡◌ {A = Option Kept} None (Some kept) = ap (find stream) (sym none) ∙ found in cc;
  none_ready = λ low. by (state_of ms).kept none;
}
  where
    by : (ks : List Kept) → ks ≡ [] → filter (can_turn (windows_in (sight_of (seen ms))) (state_of ms)) (map (λ (k : Kept). k.id) ks) ≡ []
    by [] e = refl
    by (k ∷ ks) e = cc

-- Its moves may come by the rule by states.
may_come : AllMayCome (seen answered)
unfolding total_size
may_come = (
  (
    (((tt, record { no_block = refl; no_data = refl }), (nobody_waits (Sends (plain (settings_frame 0)) ∷ []) refl, refl, refl)), record { no_block = refl; no_data = refl }),
    (nobody_waits greeted refl, refl, refl),
  ),
  (reply_goes (windows_in (sight_of (seen asked))), record { active = refl; brings = refl }),
)

-- ---- what is held

-- the reply's one field is held until it goes: its name has 14 octets and its value one
reply_held : octets_held (state_of asked) ≡ 15
reply_held = refl

none_held : octets_held (state_of answered) ≡ 0
none_held = refl

-- the outbox is that of the one stream that is active
one_stream : map (λ (k : Kept). k.id) (state_of asked).kept ≡ reverse (active (map entry_of asked))
unfolding total_size
one_stream = refl

-- the reply of one stream, and an octet, two and none of the others' bodies
four_held : octets_held four ≡ 15 + 1 + 2 + 0
four_held = refl

-- a head by its status, with a field of three octets
abbrev pub head : ℕ → Head
head status = record { status = status; fields = field (codes "ab") (codes "c") ∷ [] }

-- Interim heads, the final one, what is there of the body, and trailers: all of them are held, and less once a part of them went.
all_parts : octets_in (Before (head 100 ∷ head 103 ∷ []) (Some (head 200)) (7 ∷ 8 ∷ []) (Some (field (codes "x") (codes "1") ∷ []))) ≡ 3 + 3 + 3 + 2 + 2
all_parts = refl

head_gone : octets_in (left (Before (head 100 ∷ head 103 ∷ []) (Some (head 200)) (7 ∷ 8 ∷ []) (Some [])) (Early (head 100))) ≡ 3 + 3 + 2
head_gone = refl

octets_gone : octets_in (left (Behind (7 ∷ 8 ∷ 9 ∷ []) None) (Octets (7 ∷ 8 ∷ []) false)) ≡ 1
octets_gone = refl

-- behind the last octets trailers go, in a block that ends the stream: no octets that go before them do
trailers_last : part_of 9 (Behind (7 ∷ []) (Some (field (codes "x") (codes "1") ∷ []))) ≡ Some (Octets (7 ∷ []) false)
trailers_last = refl

trailers_go : part_of 9 (left (Behind (7 ∷ []) (Some (field (codes "x") (codes "1") ∷ []))) (Octets (7 ∷ []) false)) ≡ Some (Trailing (field (codes "x") (codes "1") ∷ []))
trailers_go = refl

-- they need no window
trailers_need_none : can_go false (Behind [] (Some (field (codes "x") (codes "1") ∷ []))) ≡ true
trailers_need_none = refl

-- DATA of two octets with one of padding, which is announced in one more: all four make room
abbrev pub padded : Noted
padded = plain (frame 0 8 1 (1 ∷ 7 ∷ 8 ∷ 0 ∷ []))

padding_counts : (data_octets (is_on 1) (padded ∷ []) ≡ 4) × (items_on 1 (padded ∷ []) ≡ Content (7 ∷ 8 ∷ []) false ∷ [])
padding_counts = (refl, refl)

-- So such frames are told apart.
not_bare : AreUnpadded (Sent padded ∷ []) → ⊥
not_bare bare = let clash : true ≡ false = bare.0 in cc

-- a connection that isn't open has no room
too_much : FitRooms elsewhere (Happened (Up 1 (7 ∷ [])) ∷ []) → ⊥
too_much fit = let fits : 1 ≤ 0 = fit.0 0 refl in omega (arith, fits)
