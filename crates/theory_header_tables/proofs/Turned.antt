-- The the turns of `theory_responses` are those of the tape, blocks of several frames included.
use Rattle.std.proofs.Common.{◌≡◌, ℕ, Bool, true, false, not, ◌&&◌, ◌||◌, ◌==◌, if◌then◌else◌, List, [], ◌∷◌, ◌++◌, map, Option, Some, None, refl, sym, ◌∙◌, ap, subst}
use Rattle.std.proofs.lemmas.Bool.{or_parts, and_parts, eqb-true}
use Rattle.model.specs.Messages.{Item}
use Rattle.model.specs.Messages.Item.{Content}
use Rattle.model.specs.Frames.{Frame, data_kind, headers_kind, continuation_kind, ends_headers, ends_stream, content}
use Rattle.model.specs.Tapes.{Noted, Entry, sent}
use Rattle.model.specs.Tapes.Entry.{Came, Breached, Happened, Sent, Did}
use Rattle.model.specs.Decoding.{Partial, begun, joined}
use Rattle.model.specs.Streams.{frame_items}
use Rattle.model.specs.Known.{Known}
use Rattle.model.specs.FrameErrors.{is_between}
use Rattle.model.specs.ResponseClause.{AreTogether}
use Rattle.model.specs.Synchrony.{begins_part, AreFair}
use Rattle.model.specs.Turns.{IsNextTurn}
use Rattle.theory_responses.specs.State.{Move, entry_of, ready, state_of}
use Rattle.theory_responses.specs.State.Move.{Takes, Breaks, Notes, Hears, Fails, Idles, Goes, Sends, Acts}
use Rattle.theory_responses.specs.Policy.{Neighbours, windows_on, AreAllowed, Brings, BringsNone}
use Rattle.theory_responses.proofs.Flushing.{listed, run_holds}
use Rattle.theory_errors.specs.After.{begun_after}
use Rattle.theory_errors.specs.Judging.{completed_in}
use Rattle.theory_header_tables.specs.Turns.{last_turn, HasTurn, EachInTurn, MayBegin, MayBeginIf, EachBegan}
use Rattle.theory_header_tables.proofs.Fairness.{fair}

-- Outside a block the last turn is the one that is kept, and inside it is that of its stream.
pub record Follows (t : List Entry) (last : ℕ) : Type 0 where
  pub at_rest : begun (sent t) ≡ None → last ≡ last_turn t
  pub inside : (block : Partial) → begun (sent t) ≡ Some block → last_turn t ≡ block.id

-- ---- tests of frames

-- a block that goes on, whole or not
whole_or_begun : (ends : Bool) (p : Partial) → ◌≡◌ {A = Option Partial} (if ends then Some p else None) None → ◌≡◌ {A = Option Partial} (if ends then None else Some p) None → ⊥
whole_or_begun true p e f = let clash : ◌≡◌ {A = Option Partial} (Some p) None = e in cc
whole_or_begun false p e f = let clash : ◌≡◌ {A = Option Partial} (Some p) None = f in cc

-- the block that is begun is that one
same_block : (ends : Bool) (p block : Partial) → ◌≡◌ {A = Option Partial} (if ends then None else Some p) (Some block) → p ≡ block
same_block true p block e = let clash : ◌≡◌ {A = Option Partial} None (Some block) = e in cc
same_block false p block e = cc

-- nothing is begun of nothing
none_begun : {A : Type 0} (ends : Bool) (block : Partial) → ◌≡◌ {A = Option Partial} (if ends then None else None) (Some block) → A
none_begun true block e = let clash : ◌≡◌ {A = Option Partial} None (Some block) = e in cc
none_begun false block e = let clash : ◌≡◌ {A = Option Partial} None (Some block) = e in cc

-- a CONTINUATION begins no part
no_part : (frame : Frame) → (frame.kind == continuation_kind) ≡ true → begins_part frame ≡ false
no_part frame e = ap (λ kind. kind == data_kind || kind == headers_kind) (eqb-true frame.kind continuation_kind e)

-- what begins a part and isn't DATA is HEADERS
is_headers : (frame : Frame) → begins_part frame ≡ true → (frame.kind == data_kind) ≡ false → (frame.kind == headers_kind) ≡ true
is_headers frame e no_data = ap (λ b. b || frame.kind == headers_kind) (sym no_data) ∙ e

module _ (t : List Entry) (noted : Noted) where
  -- the block that the frame begins
  abbrev first_part : Partial
  first_part = record { id = noted.frame.id; ends = ends_stream noted.frame; fragments = content noted.frame }

  -- the block with the frame's fragment more
  abbrev next_part : Partial → Partial
  next_part block = record { id = block.id; ends = block.ends; fragments = block.fragments ++ content noted.frame }

  -- what a frame outside a block joins
  joins_first : (b : Bool) → (noted.frame.kind == headers_kind) ≡ b → joined None noted.frame ≡ (if b then Some first_part else None)
  joins_first b e = ap (λ x. if x then Some first_part else None) e

  -- what a CONTINUATION inside one joins
  joins_next : (block : Partial) → (noted.frame.kind == continuation_kind && noted.frame.id == block.id) ≡ true → joined (Some block) noted.frame ≡ Some (next_part block)
  joins_next block e = ap (λ x. if x then Some (next_part block) else None) e

  -- inside the block that a frame goes on with, no turn is new
  inside_next : (last : ℕ) (block : Partial) → Follows t last → begun (sent t) ≡ Some block → is_between (Some block) noted.frame ≡ false → (last' : ℕ) → (begun_after (Some block) noted.frame ≡ None → last' ≡ block.id) → Follows (Sent noted ∷ t) last'
  inside_next last block h is together last' at_rest =
      let both = not-false (noted.frame.kind == continuation_kind && noted.frame.id == block.id) together in
      let parts = and_parts (noted.frame.kind == continuation_kind) (noted.frame.id == block.id) both in
      let same : last_turn (Sent noted ∷ t) ≡ block.id = ap (λ b. if b then noted.frame.id else last_turn t) (no_part noted.frame parts.0) ∙ h.inside block is in record {
        at_rest = λ e. at_rest (ap (λ b. begun_after b noted.frame) (sym is) ∙ e) ∙ sym same;
        inside = λ other e. same ∙ ap (λ (p : Partial). p.id) (same_block (ends_headers noted.frame) (next_part block) other (ap (λ x. if ends_headers noted.frame then None else x) (sym (joins_next block both)) ∙ ap (λ b. begun_after b noted.frame) (sym is) ∙ e));
      }
    where
      not-false : (b : Bool) → not b ≡ false → b ≡ true
      not-false true e = refl
      not-false false e = let clash : true ≡ false = e in cc

  -- a part that begins outside a block
  begins_first : (last' : ℕ) → begun (sent t) ≡ None → begins_part noted.frame ≡ true → (begun_after None noted.frame ≡ None → last' ≡ noted.frame.id) → Follows (Sent noted ∷ t) last'
  begins_first last' is begins at_rest =
      let now : last_turn (Sent noted ∷ t) ≡ noted.frame.id = ap (λ b. if b then noted.frame.id else last_turn t) begins in record {
        at_rest = λ e. at_rest (ap (λ b. begun_after b noted.frame) (sym is) ∙ e) ∙ sym now;
        inside = λ block e. now ∙ by block (noted.frame.kind == headers_kind) refl (ap (λ b. begun_after b noted.frame) (sym is) ∙ e);
      }
    where
      by : (block : Partial) (b : Bool) → (noted.frame.kind == headers_kind) ≡ b → begun_after None noted.frame ≡ Some block → noted.frame.id ≡ block.id
      by block true k e = ap (λ (p : Partial). p.id) (same_block (ends_headers noted.frame) first_part block (ap (λ x. if ends_headers noted.frame then None else x) (sym (joins_first true k)) ∙ e))
      by block false k e = none_begun (ends_headers noted.frame) block (ap (λ x. if ends_headers noted.frame then None else x) (sym (joins_first false k)) ∙ e)

  -- any other frame outside a block
  passes_by : (last : ℕ) → Follows t last → begun (sent t) ≡ None → begins_part noted.frame ≡ false → Follows (Sent noted ∷ t) last
  passes_by last h is none =
      let same : last_turn (Sent noted ∷ t) ≡ last_turn t = ap (λ b. if b then noted.frame.id else last_turn t) none in
      let no_headers = or_parts (noted.frame.kind == data_kind) (noted.frame.kind == headers_kind) none in record {
        at_rest = λ e. h.at_rest is ∙ sym same;
        inside = λ block e. none_begun (ends_headers noted.frame) block (ap (λ x. if ends_headers noted.frame then None else x) (sym (joins_first false no_headers.1)) ∙ ap (λ b. begun_after b noted.frame) (sym is) ∙ e);
      }

  -- ---- a frame that brings its stream an item, and has the turn of its part

  goes_by : (last : ℕ) (item : Item) → Follows t last → (b : Option Partial) → begun (sent t) ≡ b → is_between b noted.frame ≡ false → frame_items (completed_in b noted.frame) noted ≡ item ∷ [] → Follows (Sent noted ∷ t) noted.frame.id
  goes_by last item h (Some block) is together brings = inside_next last block h is together noted.frame.id (λ e. eqb-true noted.frame.id block.id (and_parts (noted.frame.kind == continuation_kind) (noted.frame.id == block.id) (both (noted.frame.kind == continuation_kind && noted.frame.id == block.id) together)).1)
    where
      both : (b : Bool) → not b ≡ false → b ≡ true
      both true e = refl
      both false e = let clash : true ≡ false = e in cc
  goes_by last item h None is together brings = by (begins_part noted.frame) refl
    where
      by : (b : Bool) → begins_part noted.frame ≡ b → Follows (Sent noted ∷ t) noted.frame.id
      by true e = begins_first noted.frame.id is e (λ f. refl)
      by false e =
          let parts = or_parts (noted.frame.kind == data_kind) (noted.frame.kind == headers_kind) e in
          let nothing : completed_in None noted.frame ≡ None = ap (λ x. if ends_headers noted.frame then x else None) (joins_first false parts.1) ∙ none_either (ends_headers noted.frame) in
          absurd (let clash : ◌≡◌ {A = List Item} [] (item ∷ []) = sym (ap (λ b. frame_items b noted) nothing ∙ no_content (noted.frame.kind == data_kind) parts.0) ∙ brings in cc)
        where
          none_either : (b : Bool) → ◌≡◌ {A = Option Partial} (if b then None else None) None
          none_either true = refl
          none_either false = refl

          no_content : (b : Bool) → (noted.frame.kind == data_kind) ≡ false → frame_items None noted ≡ []
          no_content b k = ap (λ x. if x then Content (content noted.frame) (ends_stream noted.frame) ∷ [] else []) k

  -- ---- a frame that brings none

  sends_by : (last : ℕ) → Follows t last → (b : Option Partial) → begun (sent t) ≡ b → is_between b noted.frame ≡ false → completed_in b noted.frame ≡ None → (noted.frame.kind == data_kind) ≡ false → Follows (Sent noted ∷ t) last
  sends_by last h (Some block) is together none no_data =
      let both = not-false (noted.frame.kind == continuation_kind && noted.frame.id == block.id) together in
      inside_next last block h is together last (λ e. absurd (whole_or_begun (ends_headers noted.frame) (next_part block)
      (ap (λ x. if ends_headers noted.frame then x else None) (sym (joins_next block both)) ∙ none)
      (ap (λ x. if ends_headers noted.frame then None else x) (sym (joins_next block both)) ∙ e)))
    where
      not-false : (b : Bool) → not b ≡ false → b ≡ true
      not-false true e = refl
      not-false false e = let clash : true ≡ false = e in cc
  sends_by last h None is together none no_data = by (begins_part noted.frame) refl
    where
      by : (b : Bool) → begins_part noted.frame ≡ b → Follows (Sent noted ∷ t) last
      by true e =
          let joins = joins_first true (is_headers noted.frame e no_data) in
          begins_first last is e (λ f. absurd (whole_or_begun (ends_headers noted.frame) first_part (ap (λ x. if ends_headers noted.frame then x else None) (sym joins) ∙ none) (ap (λ x. if ends_headers noted.frame then None else x) (sym joins) ∙ f)))
      by false e = passes_by last h is e

-- ---- moves

-- nothing is sent
same_follows : (t : List Entry) (e : Entry) (last : ℕ) → sent (e ∷ t) ≡ sent t → last_turn (e ∷ t) ≡ last_turn t → Follows t last → Follows (e ∷ t) last
same_follows t e last es el h = record {
  at_rest = λ none. h.at_rest (ap begun (sym es) ∙ none) ∙ sym el;
  inside = λ block is. el ∙ h.inside block (ap begun (sym es) ∙ is);
}

pub moves_follow : (known : Known) (ms : List Move) → AreAllowed known ms → AreTogether (sent (map entry_of ms)) → Follows (map entry_of ms) (state_of ms).last
moves_follow known [] a g = record { at_rest = λ e. refl; inside = λ block e. let clash : ◌≡◌ {A = Option Partial} None (Some block) = e in cc }
moves_follow known (Takes noted change ∷ ms) a g = same_follows (map entry_of ms) (Came noted) (state_of ms).last refl refl (moves_follow known ms a.0 g)
moves_follow known (Breaks breach ∷ ms) a g = same_follows (map entry_of ms) (Breached breach) (state_of ms).last refl refl (moves_follow known ms a.0 g)
moves_follow known (Notes event ∷ ms) a g = same_follows (map entry_of ms) (Happened event) (state_of ms).last refl refl (moves_follow known ms a.0 g)
moves_follow known (Hears event stream news ∷ ms) a g = same_follows (map entry_of ms) (Happened event) (state_of ms).last refl refl (moves_follow known ms a.0 g)
moves_follow known (Fails event stream ∷ ms) a g = same_follows (map entry_of ms) (Happened event) (state_of ms).last refl refl (moves_follow known ms a.0 g)
moves_follow known (Idles event ∷ ms) a g = same_follows (map entry_of ms) (Happened event) (state_of ms).last refl refl (moves_follow known ms a.0 g)
moves_follow known (Acts act ∷ ms) a g = same_follows (map entry_of ms) (Did act) (state_of ms).last refl refl (moves_follow known ms a.0 g)
moves_follow known (Goes noted item part over ∷ ms) a g =
    let brings : Brings (map entry_of ms) noted item over = a.2.1 in
    goes_by (map entry_of ms) noted (state_of ms).last item (moves_follow known ms a.0 g.1) (begun (sent (map entry_of ms))) refl g.0 brings.brings
moves_follow known (Sends noted ∷ ms) a g =
    let none : BringsNone (map entry_of ms) noted = a.2 in
    sends_by (map entry_of ms) noted (state_of ms).last (moves_follow known ms a.0 g.1) (begun (sent (map entry_of ms))) refl g.0 none.no_block none.no_data

-- ---- each part has its turn

-- a part begins outside a block
outside : (noted : Noted) (b : Option Partial) → is_between b noted.frame ≡ false → begins_part noted.frame ≡ true → b ≡ None
outside noted None together begins = refl
outside noted (Some block) together begins = absurd (by (noted.frame.kind == continuation_kind) refl)
  where
    by : (c : Bool) → (noted.frame.kind == continuation_kind) ≡ c → ⊥
    by true e = let clash : true ≡ false = sym begins ∙ no_part noted.frame e in cc
    by false e = let clash : true ≡ false = ap (λ c. not (c && noted.frame.id == block.id)) (sym e) ∙ together in cc

turn_had : (known : Known) (ms : List Move) (noted : Noted) → AreAllowed known ms → Neighbours known (map entry_of ms) → AreTogether (sent (Sent noted ∷ map entry_of ms)) → MayBeginIf (windows_on (map entry_of ms)) (state_of ms) (Sent noted) → begins_part noted.frame ≡ true → HasTurn known (map entry_of ms) noted.frame.id
turn_had known ms noted a n g may begins =
    let t : List Entry = map entry_of ms in
    let m : MayBegin (windows_on t) (state_of ms) noted.frame.id = may begins in
    let same : (state_of ms).last ≡ last_turn t = (moves_follow known ms a g.1).at_rest (outside noted (begun (sent t)) g.0 begins) in record {
      ready = ready (windows_on t) (state_of ms);
      turn = subst (λ last. IsNextTurn last (ready (windows_on t) (state_of ms)) (Some noted.frame.id)) same m.turn;
      listed = listed known t (state_of ms) n (run_holds known ms a) m.none_cut;
    }

pub each_in_turn : (known : Known) (ms : List Move) → AreAllowed known ms → AreTogether (sent (map entry_of ms)) → EachBegan ms → EachInTurn known (map entry_of ms)
each_in_turn known [] a g b = tt
each_in_turn known (Takes noted change ∷ ms) a g b = each_in_turn known ms a.0 g b.0
each_in_turn known (Breaks breach ∷ ms) a g b = each_in_turn known ms a.0 g b.0
each_in_turn known (Notes event ∷ ms) a g b = each_in_turn known ms a.0 g b.0
each_in_turn known (Hears event stream news ∷ ms) a g b = each_in_turn known ms a.0 g b.0
each_in_turn known (Fails event stream ∷ ms) a g b = each_in_turn known ms a.0 g b.0
each_in_turn known (Idles event ∷ ms) a g b = each_in_turn known ms a.0 g b.0
each_in_turn known (Acts act ∷ ms) a g b = each_in_turn known ms a.0 g b.0
each_in_turn known (Goes noted item part over ∷ ms) a g b = (turn_had known ms noted a.0 a.1 g b.1, each_in_turn known ms a.0 g.1 b.0)
each_in_turn known (Sends noted ∷ ms) a g b = (turn_had known ms noted a.0 a.1 g b.1, each_in_turn known ms a.0 g.1 b.0)

-- So turns are fair.
pub turns_fair : (known : Known) (ms : List Move) → AreAllowed known ms → AreTogether (sent (map entry_of ms)) → EachBegan ms → AreFair known (map entry_of ms)
turns_fair known ms a g b = fair known (map entry_of ms) (each_in_turn known ms a g b)
