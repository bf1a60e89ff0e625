-- The client's octets, and what of them stands on the tape, behind a step.
use Rattle.std.proofs.Common.{◌≡◌, ℕ, false, List, [], ◌∷◌, ◌++◌, map, reverse, refl, sym, ◌∙◌, ap, subst, append_assoc, append-nil, ◌⊎◌, inl, inr}
use Rattle.std.proofs.lemmas.List.{map-append, reverse-append, reverse-reverse}
use Rattle.model.specs.Octets.{IsStrictFront}
use Rattle.model.specs.Frames.{Frame, Reading, IsTooLong, preface}
use Rattle.model.specs.Logs.{Event}
use Rattle.model.specs.Tapes.{Noted, Entry, Breach, came, breaches, happened, frames_of, is_closed, IsRead, IsNoPreface}
use Rattle.model.specs.Tapes.Entry.{Came, Breached, Happened, Sent, Did}
use Rattle.model.specs.Tapes.Breach.{WrongPreface, TooLong}
use Rattle.frames.specs.Views.{IsUnfinished}
use Rattle.event_handlers.specs.Inputs.{Input, inputs_in, events_in}
use Rattle.event_handlers.specs.Inputs.Input.{OfFrame, OfBreach}
use Rattle.gateway.specs.Stands.{IsUnbegun, IsBehind}

-- ---- what came in, by its kind

abbrev pub frames_in : List Input → List Frame
frames_in [] = []
frames_in (OfFrame frame ∷ is) = frame ∷ frames_in is
frames_in (_ ∷ is) = frames_in is

abbrev pub breaches_in : List Input → List Breach
breaches_in [] = []
breaches_in (OfBreach breach ∷ is) = breach ∷ breaches_in is
breaches_in (_ ∷ is) = breaches_in is

came_both : (a b : List Entry) → came (a ++ b) ≡ came a ++ came b
came_both [] b = refl
came_both (Came noted ∷ a) b = ap (λ (x : List Noted). noted ∷ x) (came_both a b)
came_both (Breached breach ∷ a) b = came_both a b
came_both (Happened event ∷ a) b = came_both a b
came_both (Sent noted ∷ a) b = came_both a b
came_both (Did act ∷ a) b = came_both a b

breaches_both : (a b : List Entry) → breaches (a ++ b) ≡ breaches a ++ breaches b
breaches_both [] b = refl
breaches_both (Came noted ∷ a) b = breaches_both a b
breaches_both (Breached breach ∷ a) b = ap (λ (x : List Breach). breach ∷ x) (breaches_both a b)
breaches_both (Happened event ∷ a) b = breaches_both a b
breaches_both (Sent noted ∷ a) b = breaches_both a b
breaches_both (Did act ∷ a) b = breaches_both a b

abbrev frame_list : List Noted → List Frame
frame_list noted = map (λ (n : Noted). n.frame) noted

came_by : (a : List Entry) → frame_list (came a) ≡ frames_in (inputs_in a)
came_by [] = refl
came_by (Came noted ∷ a) = ap (λ (x : List Frame). noted.frame ∷ x) (came_by a)
came_by (Breached breach ∷ a) = came_by a
came_by (Happened event ∷ a) = came_by a
came_by (Sent noted ∷ a) = came_by a
came_by (Did act ∷ a) = came_by a

breaches_by : (a : List Entry) → breaches a ≡ breaches_in (inputs_in a)
breaches_by [] = refl
breaches_by (Came noted ∷ a) = breaches_by a
breaches_by (Breached breach ∷ a) = ap (λ (x : List Breach). breach ∷ x) (breaches_by a)
breaches_by (Happened event ∷ a) = breaches_by a
breaches_by (Sent noted ∷ a) = breaches_by a
breaches_by (Did act ∷ a) = breaches_by a

pub happened_by : (a : List Entry) → happened a ≡ events_in (inputs_in a)
happened_by [] = refl
happened_by (Came noted ∷ a) = happened_by a
happened_by (Breached breach ∷ a) = happened_by a
happened_by (Happened event ∷ a) = ap (λ (x : List Event). event ∷ x) (happened_by a)
happened_by (Sent noted ∷ a) = happened_by a
happened_by (Did act ∷ a) = happened_by a

-- ---- frames alone

reverse_frames : (fs : List Frame) → reverse (map OfFrame fs) ≡ map OfFrame (reverse fs)
reverse_frames [] = refl
reverse_frames (f ∷ fs) = reverse-append (OfFrame f ∷ []) (map OfFrame fs) ∙ ap (λ x. x ++ OfFrame f ∷ []) (reverse_frames fs) ∙ sym (map-append OfFrame (reverse fs) (f ∷ [])) ∙ ap (map OfFrame) (sym (reverse-append (f ∷ []) fs))

all_frames : (gs : List Frame) → frames_in (map OfFrame gs) ≡ gs
all_frames [] = refl
all_frames (g ∷ gs) = ap (λ (x : List Frame). g ∷ x) (all_frames gs)

no_breaches : (gs : List Frame) → breaches_in (map OfFrame gs) ≡ []
no_breaches [] = refl
no_breaches (g ∷ gs) = no_breaches gs

no_events : (gs : List Frame) → events_in (map OfFrame gs) ≡ []
no_events [] = refl
no_events (g ∷ gs) = no_events gs

pub in_frames : (fs : List Frame) → frames_in (reverse (map OfFrame fs)) ≡ reverse fs
in_frames fs = ap frames_in (reverse_frames fs) ∙ all_frames (reverse fs)

pub in_breaches : (fs : List Frame) → breaches_in (reverse (map OfFrame fs)) ≡ []
in_breaches fs = ap breaches_in (reverse_frames fs) ∙ no_breaches (reverse fs)

pub in_events : (fs : List Frame) → events_in (reverse (map OfFrame fs)) ≡ []
in_events fs = ap events_in (reverse_frames fs) ∙ no_events (reverse fs)

-- ---- entries behind a tape

frames_then : (a t : List Entry) (fs : List Frame) → frames_in (inputs_in a) ≡ reverse fs → frames_of (came (a ++ t)) ≡ frames_of (came t) ++ fs
frames_then a t fs e =
    ap frames_of (came_both a t)
    ∙ ap reverse (map-append (λ (n : Noted). n.frame) (came a) (came t))
    ∙ ap (λ x. reverse (x ++ frame_list (came t))) (came_by a ∙ e)
    ∙ reverse-append (reverse fs) (frame_list (came t))
    ∙ ap (λ x. frames_of (came t) ++ x) (reverse-reverse fs)

no_frame_then : (a t : List Entry) → frames_in (inputs_in a) ≡ [] → came (a ++ t) ≡ came t
no_frame_then a t e = came_both a t ∙ ap (λ x. x ++ came t) (empty (came a) (came_by a ∙ e))
  where
    empty : (ns : List Noted) → frame_list ns ≡ [] → ns ≡ []
    empty [] e = refl
    empty (n ∷ ns) e = absurd (let f : n.frame ∷ frame_list ns ≡ [] = e in cc)

breaches_then : (a t : List Entry) (bs : List Breach) → breaches_in (inputs_in a) ≡ bs → breaches t ≡ [] → breaches (a ++ t) ≡ bs
breaches_then a t bs e none = breaches_both a t ∙ ap (λ x. x ++ breaches t) (breaches_by a ∙ e) ∙ ap (λ x. bs ++ x) none ∙ append-nil bs

-- the same octets, with these read off first
reading_then : (text : List ℕ) (fs gs : List Frame) (mid piece rest : List ℕ) → Reading text fs mid → Reading (mid ++ piece) gs rest → Reading (text ++ piece) (fs ++ gs) rest
reading_then text [] gs mid piece rest e r = subst (λ x. Reading (x ++ piece) gs rest) (sym e) r
reading_then text (f ∷ fs) gs mid piece rest h r = (h.0, h.1 ++ piece, h.2, ap (λ x. x ++ piece) h.3 ∙ append_assoc h.0 h.1 piece, reading_then h.1 fs gs mid piece rest h.4 r)

-- ---- an event that isn't octets of the client

module _ (text : List ℕ) (t a : List Entry) (unbroken : breaches t ≡ []) (no_frames : frames_in (inputs_in a) ≡ []) (no_breach : breaches_in (inputs_in a) ≡ []) where
  same_frames : came (a ++ t) ≡ came t
  same_frames = no_frame_then a t no_frames

  pub unbroken_then : breaches (a ++ t) ≡ []
  unbroken_then = breaches_then a t [] no_breach unbroken

  module _ (partial : List ℕ) where
    pub unbegun_then : IsUnbegun partial text t → IsUnbegun partial text (a ++ t)
    unbegun_then u = record { front = u.front; all = u.all; no_frame = same_frames ∙ u.no_frame }

    pub unbegun_read : IsUnbegun partial text t → IsRead text (a ++ t)
    unbegun_read u = inl (u.front, record { no_frame = same_frames ∙ u.no_frame; breach = unbroken_then })

    pub behind_then : IsBehind partial text t → IsBehind partial text (a ++ t)
    behind_then u = record { behind = u.behind; begins = u.begins; reading = subst (λ fs. Reading u.behind fs partial) (sym (ap frames_of same_frames)) u.reading; rest = u.rest }

    pub behind_read : IsBehind partial text t → IsRead text (a ++ t)
    behind_read u =
        let w = behind_then u in
        inr (inr (record { behind = w.behind; rest = partial; begins = w.begins; reading = w.reading; breach = inl unbroken_then; no_more = λ on. (u.rest.no_frame, u.rest.not_too_long) }))

-- ---- octets of the client

-- so far they are a front of the preface
module _ (partial text piece : List ℕ) (t a : List Entry) (u : IsUnbegun partial text t) (unbroken : breaches t ≡ []) where
  all_unread : partial ++ piece ≡ text ++ piece
  all_unread = ap (λ x. x ++ piece) u.all

  module _ (front : IsStrictFront (partial ++ piece) preface) (none : inputs_in a ≡ []) where
    pub waits_kept : IsUnbegun (partial ++ piece) (text ++ piece) (a ++ t)
    waits_kept = record { front = subst (λ x. IsStrictFront x preface) all_unread front; all = all_unread; no_frame = no_frame_then a t (ap frames_in none) ∙ u.no_frame }

    pub waits_unbroken : breaches (a ++ t) ≡ []
    waits_unbroken = breaches_then a t [] (ap breaches_in none) unbroken

    pub waits_read : IsRead (text ++ piece) (a ++ t)
    waits_read = inl (waits_kept.front, record { no_frame = waits_kept.no_frame; breach = waits_unbroken })

  -- they depart from it
  pub departs_read : IsNoPreface (partial ++ piece) → inputs_in a ≡ OfBreach WrongPreface ∷ [] → IsRead (text ++ piece) (a ++ t)
  departs_read no_preface is = inr (inl (subst IsNoPreface all_unread no_preface, record { no_frame = no_frame_then a t (ap frames_in is) ∙ u.no_frame; breach = breaches_then a t (WrongPreface ∷ []) (ap breaches_in is) unbroken }))

-- frames are read behind the preface, and a header that is too long comes last, if one does
module _ (text piece : List ℕ) (t a : List Entry) (unbroken : breaches t ≡ []) (frames : List Frame) (last : List Input) (rest : List ℕ) (broken : (last ≡ []) ⊎ ((last ≡ OfBreach TooLong ∷ []) × IsTooLong rest)) (is : inputs_in a ≡ last ++ reverse (map OfFrame frames)) where
  in_order : frames_in (inputs_in a) ≡ reverse frames
  in_order = elim broken [
    | inl none ↦ ap frames_in (is ∙ ap (λ (l : List Input). l ++ reverse (map OfFrame frames)) none) ∙ in_frames frames
    | inr long ↦ ap frames_in (is ∙ ap (λ (l : List Input). l ++ reverse (map OfFrame frames)) long.0) ∙ in_frames frames
  ]

  all : frames_of (came (a ++ t)) ≡ frames_of (came t) ++ frames
  all = frames_then a t frames in_order

  broke : (breaches (a ++ t) ≡ []) ⊎ ((breaches (a ++ t) ≡ TooLong ∷ []) × IsTooLong rest)
  broke = elim broken [
    | inl none ↦ inl (breaches_then a t [] (ap breaches_in (is ∙ ap (λ (l : List Input). l ++ reverse (map OfFrame frames)) none) ∙ in_breaches frames) unbroken)
    | inr long ↦ inr (breaches_then a t (TooLong ∷ []) (ap breaches_in (is ∙ ap (λ (l : List Input). l ++ reverse (map OfFrame frames)) long.0) ∙ ap (λ (x : List Breach). TooLong ∷ x) (in_breaches frames)) unbroken, long.1)
  ]

  pub goes_unbroken : IsUnfinished rest → breaches (a ++ t) ≡ []
  goes_unbroken unfinished = elim broke [ inl none ↦ none | inr long ↦ absurd (unfinished.not_too_long long.1) ]

  module _ (behind : List ℕ) (begins : text ++ piece ≡ preface ++ behind) (reading : Reading behind (frames_of (came (a ++ t))) rest) where
    goes_read : (is_closed (a ++ t) ≡ false → IsUnfinished rest) → IsRead (text ++ piece) (a ++ t)
    goes_read leaves = inr (inr (record { behind = behind; rest = rest; begins = begins; reading = reading; breach = broke; no_more = λ on. let r = leaves on in (r.no_frame, r.not_too_long) }))

    goes_kept : IsUnfinished rest → IsBehind rest (text ++ piece) (a ++ t)
    goes_kept unfinished = record { behind = behind; begins = begins; reading = reading; rest = unfinished }

  -- what is so of them, from the preface on
  pub record IsReadOn : Type 0 where
    pub read : (is_closed (a ++ t) ≡ false → IsUnfinished rest) → IsRead (text ++ piece) (a ++ t)
    pub kept : IsUnfinished rest → IsBehind rest (text ++ piece) (a ++ t)

  told : (behind : List ℕ) → text ++ piece ≡ preface ++ behind → Reading behind (frames_of (came (a ++ t))) rest → IsReadOn
  told behind begins reading = record { read = goes_read behind begins reading; kept = goes_kept behind begins reading }

  -- the preface is whole only now
  pub goes_first : (partial behind : List ℕ) → IsUnbegun partial text t → partial ++ piece ≡ preface ++ behind → Reading behind frames rest → IsReadOn
  goes_first partial behind u begins reading =
      told behind (ap (λ x. x ++ piece) (sym u.all) ∙ begins) (subst (λ fs. Reading behind fs rest) (sym (all ∙ ap (λ ns. frames_of ns ++ frames) u.no_frame)) reading)

  -- it was before
  pub goes_on : (partial behind : List ℕ) → IsBehind partial text t → partial ++ piece ≡ behind → Reading behind frames rest → IsReadOn
  goes_on partial behind u is_behind reading =
      told (u.behind ++ piece) (ap (λ x. x ++ piece) u.begins ∙ append_assoc preface u.behind piece)
      (subst (λ fs. Reading (u.behind ++ piece) fs rest) (sym all)
      (reading_then u.behind (frames_of (came t)) frames partial piece rest u.reading (subst (λ x. Reading x frames rest) (sym is_behind) reading)))
