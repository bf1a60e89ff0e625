-- Gateways that let a stream wait which is ready: one that serves another as long as it can, and one that sends nothing.
use Rattle.std.proofs.Common.{◌≡◌, true, false, List, [], ◌∷◌, ◌++◌, refl, inl, inr, arith}
use Rattle.std.specs.Prelude.{None, Some, codes}
use Rattle.model.specs.Tables.{total_size}
use Rattle.model.specs.Frames.{settings_ack}
use Rattle.model.specs.Messages.Item.{Block}
use Rattle.model.specs.Logs.Event.{Up}
use Rattle.model.specs.Logs.Act.{Close}
use Rattle.model.specs.Tapes.{Entry}
use Rattle.model.specs.Tapes.Entry.{Happened, Did}
use Rattle.model.specs.Deliveries.{Delivery, IsSection, ReadsAs, nothing}
use Rattle.model.specs.ProgressClause.{NoneReady}
use Rattle.model.specs.Readiness.{IsReady, IsNextBody}
use Rattle.model.specs.Synchrony.{begins_part, AreFair, IsReadyAtEach}
use Rattle.model.proofs.AnswerTexts.{answer, head, fields, block, response, answered}
use Rattle.model_examples.proofs.RowTapes.{by_whole, frame, plain, settings, out, out_headed, getting, got}

-- both upstreams have answered, and nothing was sent yet
abbrev both : List Entry
both = Did (Close 2) ∷ Happened (Up 2 answer) ∷ Did (Close 1) ∷ Happened (Up 1 answer) ∷ getting 2 3 got

-- stream 3 is sent its head, and then its body
abbrev first_turn : List Entry
first_turn = out_headed (frame 1 4 3 block) fields ∷ []

abbrev two_turns : List Entry
two_turns = out (frame 0 1 3 (codes "hi")) ∷ first_turn

abbrev delivery : Delivery
delivery = record { interims = []; head = Some head; body = codes "hi"; ends = Some [] }

ready_before : IsReady by_whole both 1
unfolding total_size
ready_before = record {
  is_active = refl;
  read = nothing;
  offered = delivery;
  reads = record { interim_items = []; rest = []; is = refl; interims = tt; answer = (refl, refl, refl) };
  is_offered = inr (record {
    no_reply = inl refl;
    o = record { k = 1; route = 0; stream = 1 };
    given = record { is_opened = inr (inl refl); is_given = refl };
    shows = inl (record { response = response; is_whole = answered; says = refl });
  });
  can_go = inr (inl (record { head = head; not_begun = refl; same_interims = refl; is = refl }));
}

ready_between : IsReady by_whole (first_turn ++ both) 1
unfolding total_size
ready_between = record {
  is_active = refl;
  read = nothing;
  offered = delivery;
  reads = record { interim_items = []; rest = []; is = refl; interims = tt; answer = (refl, refl, refl) };
  is_offered = inr (record {
    no_reply = inl refl;
    o = record { k = 1; route = 0; stream = 1 };
    given = record { is_opened = inr (inl refl); is_given = refl };
    shows = inl (record { response = response; is_whole = answered; says = refl });
  });
  can_go = inr (inl (record { head = head; not_begun = refl; same_interims = refl; is = refl }));
}

stays_ready : IsReadyAtEach by_whole 1 both two_turns
stays_ready = (λ begins. ready_between, (λ begins. ready_before, tt))

pub unfair : AreFair by_whole (two_turns ++ both) → ⊥
unfair fair = let one = fair [] two_turns both refl 1 3 stays_ready refl in omega (arith, one)

-- ---- turns between which the stream that waits isn't ready

-- both were sent their heads
abbrev heads_out : List Entry
heads_out = out_headed (frame 1 4 3 block) fields ∷ out_headed (frame 1 4 1 block) fields ∷ both

-- Stream 3 is sent an octet, the client takes its windows back and gives them again, and stream 3 is sent the next.
abbrev first_octet : List Entry
first_octet = out (frame 0 0 3 (codes "h")) ∷ []

abbrev window_closed : List Entry
window_closed = out settings_ack ∷ plain (settings (0 ∷ 4 ∷ 0 ∷ 0 ∷ 0 ∷ 0 ∷ [])) ∷ first_octet

abbrev window_open : List Entry
window_open = out settings_ack ∷ plain (settings (0 ∷ 4 ∷ 0 ∷ 0 ∷ 255 ∷ 255 ∷ [])) ∷ window_closed

abbrev two_octets : List Entry
two_octets = out (frame 0 1 3 (codes "i")) ∷ window_open

abbrev head_read : Delivery
head_read = record { interims = []; head = Some head; body = []; ends = None }

is_section : IsSection fields head
is_section = record { digits = codes "200"; is = refl; three = refl; are_digits = refl; status = refl; no_other = refl }

reads_head : ReadsAs (Block fields false ∷ []) head_read
reads_head = record { interim_items = []; rest = Block fields false ∷ []; is = refl; interims = tt; answer = (is_section, omega arith, (refl, refl)) }

body_next : IsNextBody head_read delivery
body_next = record { behind = record { head = head; is_read = refl; is_offered = refl; same_interims = refl }; octet = 104; more = codes "i"; is = refl }

ready_first : IsReady by_whole heads_out 1
unfolding total_size
ready_first = record {
  is_active = refl;
  read = head_read;
  offered = delivery;
  reads = reads_head;
  is_offered = inr (record {
    no_reply = inl refl;
    o = record { k = 1; route = 0; stream = 1 };
    given = record { is_opened = inr (inl refl); is_given = refl };
    shows = inl (record { response = response; is_whole = answered; says = refl });
  });
  can_go = inr (inr (inr (body_next, record { own = omega arith; shared = omega arith })));
}

ready_again : IsReady by_whole (window_open ++ heads_out) 1
unfolding total_size
ready_again = record {
  is_active = refl;
  read = head_read;
  offered = delivery;
  reads = reads_head;
  is_offered = inr (record {
    no_reply = inl refl;
    o = record { k = 1; route = 0; stream = 1 };
    given = record { is_opened = inr (inl refl); is_given = refl };
    shows = inl (record { response = response; is_whole = answered; says = refl });
  });
  can_go = inr (inr (inr (body_next, record { own = omega arith; shared = omega arith })));
}

-- an acknowledgement isn't a turn
no_turn : {A : Type 0} → begins_part settings_ack ≡ true → A
no_turn begins = absurd (let clash : false ≡ true = begins in cc)

at_each : IsReadyAtEach by_whole 1 heads_out two_octets
at_each = (λ begins. ready_again, (no_turn, (no_turn, (λ begins. ready_first, tt))))

pub unfair_apart : AreFair by_whole (two_octets ++ heads_out) → ⊥
unfair_apart fair = let one = fair [] two_octets heads_out refl 1 3 at_each refl in omega (arith, one)

-- A gateway that sits on what it was answered: the stream is ready, and the client has taken almost all.
pub held_back : NoneReady by_whole both → ⊥
held_back none = none (omega arith) 1 ready_before
