-- A response's head is read in one way, and ends in one place.
use Rattle.std.proofs.Common.{◌≡◌, ℕ, ◌<◌, ◌≤◌, Bool, List, [], ◌++◌, refl, sym, ap, ◌∙◌, subst, append_assoc, arith}
use Rattle.std.specs.Prelude.{Option, Some}
use Rattle.std.proofs.lemmas.List.{append_cancel_right}
use Rattle.httparse.specs.Grammar as grammar
use Rattle.httparse.specs.Grammar.{ReadsResponse, HasNoResponse, status_code}
use Rattle.httparse.proofs.GrammarLemmas.{response_unique, ReadsResponse-append}
use Rattle.model.specs.Octets.{Joined}
use Rattle.model.specs.ResponseHeads.{Head, Framing, Interim, Final, head_of, framing_of}
use Rattle.model.proofs.Http1Runs.{same_rest, IsPrefixFree, BeginsNone, one_joined}

-- the text is a head of the grammar
abbrev pub Spelled : List ℕ → grammar.ResponseHead → Type 0
Spelled text spelled = ReadsResponse text spelled []

pub nil-left : (x : List ℕ) → [] ++ x ≡ x
nil-left x = refl

-- a head of the grammar begins a text just where it stands there
pub spelled_reads : (a x : List ℕ) (h : grammar.ResponseHead) → Spelled a h → ReadsResponse (a ++ x) h x
spelled_reads a x h p = ReadsResponse-append a h [] x p

pub one_spelled : IsPrefixFree Spelled
one_spelled a b x y h k p q e =
    let other : ReadsResponse (a ++ x) k y = subst (λ (t : List ℕ). ReadsResponse t k y) (sym e) (spelled_reads b y k q) in
    let same = response_unique (a ++ x) h k x y (spelled_reads a x h p) other in
    (append_cancel_right a b x (e ∙ ap (λ (o : List ℕ). b ++ o) (sym same.1)), same.0)

pub interim_same : (text : List ℕ) (h k : Head) → (p : Interim text h) (q : Interim text k) → p.spelled ≡ q.spelled → h ≡ k
interim_same text h k p q e = p.says ∙ ap head_of e ∙ sym q.says

pub one_interim : IsPrefixFree Interim
one_interim a b x y h k p q e =
    let same = one_spelled a b x y p.spelled q.spelled p.taken.reads q.taken.reads e in
    (same.0, p.says ∙ ap head_of same.1 ∙ sym q.says)

-- what no head begins, no interim head does
pub none_without_head : (text : List ℕ) → HasNoResponse text → BeginsNone Interim text
none_without_head text none front more h p e =
    none p.spelled more (subst (λ (t : List ℕ). ReadsResponse t p.spelled more) (sym e) (spelled_reads front more p.spelled p.taken.reads))

-- a final head isn't an interim one
pub none_at_final : (to_head : Bool) (head_text rest : List ℕ) (h : Head) (f : Framing) → Final to_head head_text h f → BeginsNone Interim (head_text ++ rest)
none_at_final to_head head_text rest h f q front more k p e =
    let same = one_spelled head_text front rest more q.spelled p.spelled q.taken.reads p.taken.reads e in
    let low : status_code p.spelled < 200 = p.is_interim in
    let high : 200 ≤ status_code q.spelled = q.is_final in
    let codes : status_code q.spelled ≡ status_code p.spelled = ap status_code same.1 in
    absurd (omega arith)

pub record SameFinal (a b x y : List ℕ) (h k : Head) (f g : Framing) : Type 0 where
  pub text : a ≡ b
  pub rest : x ≡ y
  pub head : h ≡ k
  pub framing : f ≡ g

pub some_same : (f g : Framing) → ◌≡◌ {A = Option Framing} (Some f) (Some g) → f ≡ g
some_same f g e = cc

pub one_final : (to_head : Bool) (a b x y : List ℕ) (h k : Head) (f g : Framing) → Final to_head a h f → Final to_head b k g → a ++ x ≡ b ++ y → SameFinal a b x y h k f g
one_final to_head a b x y h k f g p q e =
    let same = one_spelled a b x y p.spelled q.spelled p.taken.reads q.taken.reads e in
    record {
      text = same.0;
      rest = same_rest a b x y same.0 e;
      head = p.says ∙ ap head_of same.1 ∙ sym q.says;
      framing = some_same f g (sym p.framed ∙ ap (framing_of to_head) same.1 ∙ q.framed);
    }

-- the parts of what stands before a body
pub record SameFronts (s t a b x y : List ℕ) (hs ks : List Head) (h k : Head) (f g : Framing) : Type 0 where
  pub front : s ≡ t
  pub interims : hs ≡ ks
  pub final : SameFinal a b x y h k f g

pub one_front : (to_head : Bool) (s t a b x y : List ℕ) (hs ks : List Head) (h k : Head) (f g : Framing)
    → Joined Interim s hs → Joined Interim t ks → Final to_head a h f → Final to_head b k g
    → (s ++ a) ++ x ≡ (t ++ b) ++ y → SameFronts s t a b x y hs ks h k f g
one_front to_head s t a b x y hs ks h k f g p q pf qf e =
    let whole : s ++ (a ++ x) ≡ t ++ (b ++ y) = sym (append_assoc s a x) ∙ e ∙ append_assoc t b y in
    let fronts = one_joined Interim one_interim s t (a ++ x) (b ++ y) hs ks p q (none_at_final to_head a x h f pf) (none_at_final to_head b y k g qf) whole in
    record { front = fronts.0; interims = fronts.1; final = one_final to_head a b x y h k f g pf qf (same_rest s t (a ++ x) (b ++ y) fronts.0 whole) }
