-- Taking frames off the front of a text.
use Rattle.std.proofs.Common.{◌≡◌, ℕ, ◌+◌, ◌-◌, List, [], ◌∷◌, ◌++◌, length, map, reverse, take, drop, refl, sym, ◌∙◌, ap, subst, inl, inr, arith, length-drop, Option, Some, None}
use Rattle.std.proofs.lemmas.List.{reverse-append, map-append, take_all, take-append-drop, drop-drop}
use Rattle.model.specs.Frames.{Frame, Spells, Reading, IsTooLong}
use Rattle.model.specs.Logs.{Output}
use Rattle.model.specs.Setup.{Setup}
use Rattle.model.specs.Tapes as model
use Rattle.frames.specs.Views.{IsUnfinished}
use Rattle.refinement.specs.View.{View, balanced}
use Rattle.event_handlers.specs.Inputs.{Input}
use Rattle.event_handlers.specs.Inputs.Input.{OfFrame, OfBreach}
use Rattle.event_handlers.specs.Comings.{ComesFrom}
use Rattle.event_handlers.proofs.Following.{comes_both, comes_none}
use Rattle.gateway.specs.Reading.{Taking, Takes}

pub reading_more : (text : List ℕ) (fs : List Frame) (rest octets more : List ℕ) (f : Frame) → Reading text fs rest → Spells octets f → rest ≡ octets ++ more → Reading text (fs ++ f ∷ []) more
reading_more text [] rest octets more f r s e = (octets, more, s, r ∙ e, refl)
reading_more text (g ∷ fs) rest octets more f r s e = (r.0, r.1, r.2, r.3, reading_more r.1 fs rest octets more f r.4 s e)

frames_more : (fs : List Frame) (f : Frame) → reverse (map OfFrame (fs ++ f ∷ [])) ≡ OfFrame f ∷ reverse (map OfFrame fs)
frames_more fs f = ap reverse (map-append OfFrame fs (f ∷ [])) ∙ reverse-append (map OfFrame fs) (OfFrame f ∷ [])

-- what is left of a text, as a slice has it
pub slice_rest : (text : List ℕ) (used : ℕ) → take (length text - used) (drop used text) ≡ drop used text
slice_rest text used = take_all (length text - used) (drop used text) (simp length-drop (omega arith))

pub cut : (text : List ℕ) (used n : ℕ) → drop used text ≡ take n (drop used text) ++ drop (used + n) text
cut text used n = sym (take-append-drop n (drop used text)) ∙ ap (λ r. take n (drop used text) ++ r) (drop-drop n used text)

module _ (serves : Setup → Type 0) (a : View) (o : List Output) (text : List ℕ) where
  pub taking_none : Taking serves a o text text (Some a) o
  taking_none = record { frames = []; reading = refl; comes = λ setup s. comes_none setup a balanced o }

  pub taking_more : (b : View) (p q : List Output) (rest octets more : List ℕ) (f : Frame) (now : Option View) → Taking serves a o text rest (Some b) p → Spells octets f → rest ≡ octets ++ more
      → ((setup : Setup) → serves setup → ComesFrom setup b balanced p (OfFrame f ∷ []) balanced now q) → Taking serves a o text more now q
  taking_more b p q rest octets more f now t spells is step = record {
    frames = t.frames ++ f ∷ [];
    reading = reading_more text t.frames rest octets more f t.reading spells is;
    comes = λ setup s. subst (λ (is : List Input). ComesFrom setup a balanced o is balanced now q) (sym (frames_more t.frames f)) (comes_both setup a b balanced balanced balanced o p q (reverse (map OfFrame t.frames)) (OfFrame f ∷ []) now refl (t.comes setup s) (step setup s));
  }

  pub takes_all : (b : View) (p : List Output) (rest : List ℕ) → Taking serves a o text rest (Some b) p → IsUnfinished rest → Takes serves a o text rest (Some b) p
  takes_all b p rest t unfinished = record { frames = t.frames; reading = t.reading; last = []; broken = inl refl; comes = t.comes; leaves = unfinished }

  pub takes_over : (p : List Output) (rest : List ℕ) → Taking serves a o text rest None p → Takes serves a o text rest None p
  takes_over p rest t = record { frames = t.frames; reading = t.reading; last = []; broken = inl refl; comes = t.comes; leaves = tt }

  pub takes_breach : (b : View) (p q : List Output) (rest : List ℕ) → Taking serves a o text rest (Some b) p → IsTooLong rest → ((setup : Setup) → ComesFrom setup b balanced p (OfBreach model.Breach.TooLong ∷ []) balanced None q) → Takes serves a o text rest None q
  takes_breach b p q rest t long ends = record {
    frames = t.frames;
    reading = t.reading;
    last = OfBreach model.Breach.TooLong ∷ [];
    broken = inr (refl, long);
    comes = λ setup s. comes_both setup a b balanced balanced balanced o p q (reverse (map OfFrame t.frames)) (OfBreach model.Breach.TooLong ∷ []) None refl (t.comes setup s) (ends setup);
    leaves = tt;
  }
