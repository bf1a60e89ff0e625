-- A piece of the client's octets that is taken in two parts, one behind the other, is taken whole.
use Rattle.std.proofs.Common.{◌≡◌, Bool, true, false, if◌then◌else◌, ℕ, List, [], ◌∷◌, ◌++◌, map, reverse, refl, sym, ◌∙◌, ap, subst, inl, inr, ◌⊎◌, append_assoc, append-nil, length, length-append, ◌+◌, arith, Option, Some, None}
use Rattle.std.proofs.lemmas.List.{reverse-append, map-append}
use Rattle.model.specs.Frames.{Frame, Reading, preface, IsTooLong}
use Rattle.model.specs.Logs.{Output}
use Rattle.model.specs.Setup.{Setup}
use Rattle.model.specs.Tapes as model
use Rattle.frames.specs.Views.{IsUnfinished}
use Rattle.refinement.specs.View.{View, balanced}
use Rattle.refinement.specs.Rest.{Reached}
use Rattle.event_handlers.specs.Inputs.{Input, events_in}
use Rattle.event_handlers.specs.Inputs.Input.{OfFrame, OfBreach}
use Rattle.event_handlers.specs.Comings.{ComesFrom}
use Rattle.event_handlers.specs.Resting.{now_of, IsPassedBy}
use Rattle.event_handlers.specs.declared.resting.Onward.{Onward}
use Rattle.event_handlers.specs.declared.resting.Onward.TheVariants.{On, Over}
use Rattle.event_handlers.proofs.Following.{comes_both}
use Rattle.gateway.specs.Reading.{Takes}
use Rattle.gateway.specs.Stands.{Standing, Serves}
use Rattle.gateway.specs.Receiving.{Receives, GoesOn, Keeps, KeepsTerms, is_begun}
use Rattle.gateway.proofs.Told.{in_events}
use Rattle.gateway.specs.declared.phase.Phase.TheVariants as phase

-- ---- frames

reading_both : (text : List ℕ) (fs : List Frame) (mid : List ℕ) (gs : List Frame) (more rest : List ℕ) → Reading text fs mid → Reading (mid ++ more) gs rest → Reading (text ++ more) (fs ++ gs) rest
reading_both text [] mid gs more rest r s = subst (λ (t : List ℕ). Reading (t ++ more) gs rest) (sym r) s
reading_both text (f ∷ fs) mid gs more rest r s = (r.0, r.1 ++ more, r.2, ap (λ (t : List ℕ). t ++ more) r.3 ∙ append_assoc r.0 r.1 more, reading_both r.1 fs mid gs more rest r.4 s)

frames_both : (fs gs : List Frame) → reverse (map OfFrame (fs ++ gs)) ≡ reverse (map OfFrame gs) ++ reverse (map OfFrame fs)
frames_both fs gs = ap reverse (map-append OfFrame fs gs) ∙ reverse-append (map OfFrame fs) (map OfFrame gs)

-- no event is among frames
events_both : (a b : List Input) → events_in a ≡ [] → events_in b ≡ [] → events_in (a ++ b) ≡ []
events_both [] b none none' = none'
events_both (OfFrame f ∷ a) b none none' = events_both a b none none'
events_both (OfBreach breach ∷ a) b none none' = events_both a b none none'
events_both (Input.OfEvent event ∷ a) b none none' = absurd (let clash = none in cc)

events_at_last : (last : List Input) (breach : model.Breach) (A : Type 0) → (last ≡ []) ⊎ ((last ≡ OfBreach breach ∷ []) × A) → events_in last ≡ []
events_at_last last breach A (inl none) = ap events_in none
events_at_last last breach A (inr both) = ap events_in both.0

-- what goes on breaks nothing off
none_last : (last : List Input) (rest : List ℕ) → (last ≡ []) ⊎ ((last ≡ OfBreach model.Breach.TooLong ∷ []) × IsTooLong rest) → IsUnfinished rest → last ≡ []
none_last last rest (inl none) unfinished = none
none_last last rest (inr both) unfinished = absurd (unfinished.not_too_long both.1)

module _ (serves : Setup → Type 0) (a b : View) (o p q : List Output) (text mid more rest : List ℕ) (now : Option View) where
  pub takes_both : Takes serves a o text mid (Some b) p → Takes serves b p (mid ++ more) rest now q → Takes serves a o (text ++ more) rest now q
  takes_both one two =
      let inputs = two.last ++ reverse (map OfFrame two.frames) in
      let none : one.last ≡ [] = none_last one.last mid one.broken one.leaves in
      record {
        frames = one.frames ++ two.frames;
        reading = reading_both text one.frames mid two.frames more rest one.reading two.reading;
        last = two.last;
        broken = two.broken;
        comes = λ setup s.
            subst (λ (is : List Input). ComesFrom setup a balanced o is balanced now q)
            (append_assoc two.last (reverse (map OfFrame two.frames)) (reverse (map OfFrame one.frames)) ∙ ap (λ (is : List Input). two.last ++ is) (sym (frames_both one.frames two.frames)))
            (comes_both setup a b balanced balanced balanced o p q (reverse (map OfFrame one.frames)) inputs now
            (events_both two.last (reverse (map OfFrame two.frames)) (events_at_last two.last model.Breach.TooLong (IsTooLong rest) two.broken) (in_events two.frames))
            (subst (λ (last : List Input). ComesFrom setup a balanced o (last ++ reverse (map OfFrame one.frames)) balanced (Some b) p) none (one.comes setup s))
            (two.comes setup s));
        leaves = two.leaves;
      }

-- a header that is too long stands at the front of more too
long_more : (text more : List ℕ) → IsTooLong text → IsTooLong (text ++ more)
long_more [] more long = absurd (let header = long.header in omega (arith, header))
long_more (a ∷ []) more long = absurd (let header = long.header in omega (arith, header))
long_more (a ∷ b ∷ []) more long = absurd (let header = long.header in omega (arith, header))
long_more (a ∷ b ∷ c ∷ text) more long = record {
  header = let size : length (text ++ more) ≡ length text + length more = length-append text more in let header = long.header in omega (arith, size, header);
  length_over = long.length_over;
}

module _ (serves : Setup → Type 0) (a : View) (o p : List Output) (text rest more : List ℕ) where
  pub takes_over : Takes serves a o text rest None p → Takes serves a o (text ++ more) (rest ++ more) None p
  takes_over t = record {
    frames = t.frames;
    reading = subst (λ (fs : List Frame). Reading (text ++ more) fs (rest ++ more)) (append-nil t.frames) (reading_both text t.frames rest [] more (rest ++ more) t.reading refl);
    last = t.last;
    broken = elim t.broken [
      | inl none ↦ inl none
      | inr both ↦ inr (both.0, long_more rest more both.1)
    ];
    comes = t.comes;
    leaves = tt;
  }

-- ---- what a gateway receives

-- by what is served follows from what stays
pub serves_on : (old mid : Standing) → KeepsTerms old mid → (setup : Setup) → Serves setup old → Serves setup mid
serves_on old mid terms setup s = record { servable = s.servable; routes = s.routes ∙ sym terms.routes; max_body = s.max_body ∙ sym terms.max_body; passing = subst (IsPassedBy setup) (sym terms.passing) s.passing; keep = terms.keep ∙ s.keep; most_idle = terms.most_idle ∙ s.most_idle }

serves_from : (serves fewer : Setup → Type 0) → ((setup : Setup) → fewer setup → serves setup) → (a : View) (o : List Output) (text rest : List ℕ) (now : Option View) (o' : List Output) → Takes serves a o text rest now o' → Takes fewer a o text rest now o'
serves_from serves fewer only a o text rest now o' t = record { frames = t.frames; reading = t.reading; last = t.last; broken = t.broken; comes = λ setup s. t.comes setup (only setup s); leaves = t.leaves }

-- where the preface was read or stands there, more may follow
begins_more : (begun : Bool) (unread behind more : List ℕ) → unread ≡ (if begun then behind else preface ++ behind) → unread ++ more ≡ (if begun then behind ++ more else preface ++ (behind ++ more))
begins_more true unread behind more is = ap (λ (os : List ℕ). os ++ more) is
begins_more false unread behind more is = ap (λ (os : List ℕ). os ++ more) is ∙ append_assoc preface behind more

-- behind the preface all is frames
behind_of : (begun : Bool) (text behind : List ℕ) → begun ≡ true → text ≡ (if begun then behind else preface ++ behind) → behind ≡ text
behind_of true text behind is begins = sym begins
behind_of false text behind is begins = absurd (let clash = is in cc)

module _ (old mid new : Standing) (o p q : List Output) (went : Onward) (terms : KeepsTerms old mid) (unread more : List ℕ) where
  keeps_on : (w : Onward) (left rest : List ℕ) → mid ≡ record old { phase = phase.Frames; partial = left; kept = mid.kept } → Keeps w mid new rest → Keeps w old new rest
  keeps_on On left rest stays keeps = keeps ∙ ap (λ (g : Standing). record g { phase = phase.Frames; partial = rest; kept = new.kept }) stays
  keeps_on Over left rest stays keeps = tt

  goes_then : GoesOn old mid On o p unread → Receives mid new went p q (mid.partial ++ more) → Receives old new went o q (unread ++ more)
  goes_then first receives =
      let begun : is_begun mid.phase ≡ true = ap (λ (g : Standing). is_begun g.phase) first.reads.keeps in
      let left : mid.partial ≡ first.reads.rest = ap (λ (g : Standing). g.partial) first.reads.keeps in
      elim receives [
        | inl w ↦ absurd (let clash : true ≡ false = sym begun ∙ w.unbegun in cc)
        | inr (inl d) ↦ absurd (let clash : true ≡ false = sym begun ∙ d.unbegun in cc)
        | inr (inr g) ↦
            let behind : g.behind ≡ first.reads.rest ++ more = behind_of (is_begun mid.phase) (mid.partial ++ more) g.behind begun g.begins ∙ ap (λ (os : List ℕ). os ++ more) left in
            inr (inr (record {
              behind = first.behind ++ more;
              begins = begins_more (is_begun old.phase) unread first.behind more first.begins;
              reads = record {
                rest = g.reads.rest;
                takes = takes_both (λ setup. Serves setup old) old.kept mid.kept o p q first.behind first.reads.rest more g.reads.rest (now_of went new.kept) first.reads.takes
                    (subst (λ (text : List ℕ). Takes (λ setup. Serves setup old) mid.kept p text g.reads.rest (now_of went new.kept) q) behind
                    (serves_from (λ setup. Serves setup mid) (λ setup. Serves setup old) (serves_on old mid terms) mid.kept p g.behind g.reads.rest (now_of went new.kept) q g.reads.takes));
                keeps = keeps_on went first.reads.rest g.reads.rest first.reads.keeps g.reads.keeps;
              };
            }))
      ]

  module _ (begun : is_begun old.phase ≡ true) where
    -- behind the preface frames are read
    first_goes : (w : Onward) → Receives old mid w o p unread → GoesOn old mid w o p unread
    first_goes w first = elim first [
      | inl waits ↦ absurd (let clash : true ≡ false = sym begun ∙ waits.unbegun in cc)
      | inr (inl departs) ↦ absurd (let clash : true ≡ false = sym begun ∙ departs.unbegun in cc)
      | inr (inr goes) ↦ goes
    ]

    pub receives_then : Receives old mid On o p unread → Receives mid new went p q (mid.partial ++ more) → Receives old new went o q (unread ++ more)
    receives_then first receives = goes_then (first_goes On first) receives

    -- the gateway may go on behind the first part
    pub reached_then : Receives old mid On o p unread → (setup : Setup) → Serves setup old → Reached setup old.kept balanced → Reached setup mid.kept balanced
    reached_then first setup s reached = let c = (first_goes On first).reads.takes.comes setup s reached.0 reached.1 reached.2 in (c.moves ++ reached.0, c.stands.0, c.stands.1)

    -- where the connection is closed with the first part, the other isn't looked at
    pub receives_over : Receives old mid Over o p unread → Receives old mid Over o p (unread ++ more)
    receives_over first =
        let g = first_goes Over first in
        inr (inr (record {
          behind = g.behind ++ more;
          begins = begins_more (is_begun old.phase) unread g.behind more g.begins;
          reads = record {
            rest = g.reads.rest ++ more;
            takes = takes_over (λ setup. Serves setup old) old.kept o p g.behind g.reads.rest more g.reads.takes;
            keeps = tt;
          };
        }))
