-- A log that keeps the headline smuggles nothing at any front of its tape.
use Rattle.std.proofs.Common.{◌≡◌, ℕ, Bool, true, false, ◌==◌, if◌then◌else◌, List, [], ◌∷◌, ◌++◌, refl, sym, ap, ◌∙◌, subst, append_assoc, reverse}
use Rattle.std.proofs.lemmas.List.{append-nil}
use Rattle.model.specs.Logs.{Step}
use Rattle.model.specs.Logs.Act.{Open, ToUp, Close, CloseClient}
use Rattle.model.specs.Setup.{Setup}
use Rattle.model.specs.Tapes.{Noted, Entry, came, sent_up}
use Rattle.model.specs.Tapes.Entry.{Came, Breached, Happened, Sent, Did}
use Rattle.model.specs.Available.{items_on}
use Rattle.model.specs.Known.{Known}
use Rattle.model.specs.Headline.{ClausesHold, HoldsInTurn, IsTaped, HasTape, Headline}
use Rattle.model.proofs.FirstLog.{nothing_begins_none}
use Rattle.nothing_smuggled.specs.Smuggling.{Asked, Means, AllMean, IsNone, AreApart, ShareNone, IsSentAsked, SmugglesNothing, AreTold, NothingSmuggled}
use Rattle.nothing_smuggled.proofs.Texts.{ReadsAsFirst, front_reads}
use Rattle.nothing_smuggled.proofs.Sent.{smuggles_nothing}

-- ---- the first of a list

none_first : (stream : ℕ) (later first : List Asked) → IsNone stream (later ++ first) → IsNone stream first
none_first stream [] first n = n
none_first stream (a ∷ later) first n = none_first stream later first n.1

apart_first : (later first : List Asked) → AreApart (later ++ first) → AreApart first
apart_first [] first a = a
apart_first (p ∷ later) first a = apart_first later first a.1

mean_first : (t : List Entry) (later first : List Asked) → AllMean t (later ++ first) → AllMean t first
mean_first t [] first m = m
mean_first t (a ∷ later) first m = mean_first t later first m.1

share_first : (later first others : List Asked) → ShareNone (later ++ first) others → ShareNone first others
share_first [] first others s = s
share_first (a ∷ later) first others s = share_first later first others s.1

share_with_first : (asked later first : List Asked) → ShareNone asked (later ++ first) → ShareNone asked first
share_with_first [] later first s = tt
share_with_first (a ∷ asked) later first s = (none_first a.stream later first s.0, share_with_first asked later first s.1)

-- ---- a front behind which nothing came

abbrev IsPutOut : List Entry → Type 0
IsPutOut [] = Unit {0}
IsPutOut (Sent noted ∷ t) = IsPutOut t
IsPutOut (Did act ∷ t) = IsPutOut t
IsPutOut (_ ∷ t) = ⊥

same_came : (later before : List Entry) → IsPutOut later → came (later ++ before) ≡ came before
same_came [] before p = refl
same_came (Sent noted ∷ later) before p = same_came later before p
same_came (Did act ∷ later) before p = same_came later before p
same_came (Came noted ∷ later) before p = absurd p
same_came (Breached breach ∷ later) before p = absurd p
same_came (Happened event ∷ later) before p = absurd p

same_mean : (t u : List Entry) → came t ≡ came u → (asked : List Asked) → AllMean t asked → AllMean u asked
same_mean t u same [] m = tt
same_mean t u same (a ∷ asked) m = (mean m.0, same_mean t u same asked m.1)
  where
    mean : Means t a → Means u a
    mean n = record { own = n.own; more = n.more; is = ap (λ (c : List Noted). items_on a.stream c) (sym same) ∙ n.is; reads = n.reads }

-- what a connection was sent is a front of what it was sent later
record IsSentMore (k : ℕ) (later before : List Entry) : Type 0 where
  more : List ℕ
  is : sent_up k (later ++ before) ≡ sent_up k before ++ more

sent_by : (k j : ℕ) (octets : List ℕ) (later before : List Entry) → IsSentMore k later before → (b : Bool) → (k == j) ≡ b → IsSentMore k (Did (ToUp j octets) ∷ later) before
sent_by k j octets later before s true e = record {
  more = s.more ++ octets;
  is = ap (λ b. if b then sent_up k (later ++ before) ++ octets else sent_up k (later ++ before)) e ∙ ap (λ l. l ++ octets) s.is
      ∙ append_assoc (sent_up k before) s.more octets;
}
sent_by k j octets later before s false e = record { more = s.more; is = ap (λ b. if b then sent_up k (later ++ before) ++ octets else sent_up k (later ++ before)) e ∙ s.is }

sent_more : (k : ℕ) (later before : List Entry) → IsSentMore k later before
sent_more k [] before = record { more = []; is = sym (append-nil (sent_up k before)) }
sent_more k (Came noted ∷ later) before = let s = sent_more k later before in record { more = s.more; is = s.is }
sent_more k (Breached breach ∷ later) before = let s = sent_more k later before in record { more = s.more; is = s.is }
sent_more k (Happened event ∷ later) before = let s = sent_more k later before in record { more = s.more; is = s.is }
sent_more k (Sent noted ∷ later) before = let s = sent_more k later before in record { more = s.more; is = s.is }
sent_more k (Did (Open j route) ∷ later) before = let s = sent_more k later before in record { more = s.more; is = s.is }
sent_more k (Did (Close j) ∷ later) before = let s = sent_more k later before in record { more = s.more; is = s.is }
sent_more k (Did CloseClient ∷ later) before = let s = sent_more k later before in record { more = s.more; is = s.is }
sent_more k (Did (ToUp j octets) ∷ later) before = sent_by k j octets later before (sent_more k later before) (k == j) refl

module _ (later before : List Entry) (p : IsPutOut later) (h : SmugglesNothing (later ++ before)) where
  first_of : (k : ℕ) → ReadsAsFirst (h.asked k) (sent_up k before)
  first_of k =
      let sent = h.sent k in
      let more = sent_more k later before in
      front_reads (h.asked k) sent.reads.front sent.rest (sent_up k before) more.more sent.reads.are_requests sent.reads.no_more (sym sent.reads.is ∙ more.is)

  sent_first : (k : ℕ) → IsSentAsked before (sent_up k before) (first_of k).first
  sent_first k =
      let f = first_of k in
      let sent = h.sent k in record {
        rest = f.rest;
        reads = f.reads;
        mean = same_mean (later ++ before) before (same_came later before p) f.first (mean_first (later ++ before) f.later f.first (subst (AllMean (later ++ before)) f.are sent.mean));
        apart = apart_first f.later f.first (subst AreApart f.are sent.apart);
      }

  pub at_front : SmugglesNothing before
  at_front = record {
    asked = λ k. (first_of k).first;
    sent = sent_first;
    share_none = λ j k differ.
        let f = first_of j in
        let g = first_of k in
        let share = subst (λ l. ShareNone l (h.asked k)) f.are (h.share_none j k differ) in
        let both = subst (λ l. ShareNone (f.later ++ f.first) l) g.are share in
        share_with_first f.first g.later g.first (share_first f.later f.first (g.later ++ g.first) both);
  }

-- ---- every front

-- the clauses hold behind what is put out next
record HoldsSoon (known : Known) (t : List Entry) : Type 0 where
  later : List Entry
  put_out : IsPutOut later
  clauses : ClausesHold known (later ++ t)

put_out_more : (later more : List Entry) → IsPutOut later → IsPutOut more → IsPutOut (later ++ more)
put_out_more [] more p q = q
put_out_more (Sent noted ∷ later) more p q = put_out_more later more p q
put_out_more (Did act ∷ later) more p q = put_out_more later more p q
put_out_more (Came noted ∷ later) more p q = absurd p
put_out_more (Breached breach ∷ later) more p q = absurd p
put_out_more (Happened event ∷ later) more p q = absurd p

before_one : (known : Known) (e : Entry) (t : List Entry) → IsPutOut (e ∷ []) → HoldsSoon known (e ∷ t) → HoldsSoon known t
before_one known e t p s = record {
  later = s.later ++ e ∷ [];
  put_out = put_out_more s.later (e ∷ []) s.put_out p;
  clauses = subst (ClausesHold known) (sym (append_assoc s.later (e ∷ []) t)) s.clauses;
}

holds_soon : (known : Known) (later before : List Entry) → HoldsInTurn (ClausesHold known) (later ++ before) → HoldsSoon known (later ++ before) → HoldsSoon known before
holds_soon known [] before h s = s
holds_soon known (Came noted ∷ later) before h s = holds_soon known later before h.1 (record { later = []; put_out = tt; clauses = h.0 })
holds_soon known (Breached breach ∷ later) before h s = holds_soon known later before h.1 (record { later = []; put_out = tt; clauses = h.0 })
holds_soon known (Happened event ∷ later) before h s = holds_soon known later before h.1 (record { later = []; put_out = tt; clauses = h.0 })
holds_soon known (Sent noted ∷ later) before h s = holds_soon known later before h (before_one known (Sent noted) (later ++ before) tt s)
holds_soon known (Did act ∷ later) before h s = holds_soon known later before h (before_one known (Did act) (later ++ before) tt s)

at_once : (known : Known) (t : List Entry) → HoldsSoon known t → SmugglesNothing t
at_once known t s = at_front s.later t s.put_out (smuggles_nothing known (s.later ++ t) s.clauses.requests s.clauses.progress.go_to_open)

-- ---- the headline

nothing_sent : SmugglesNothing []
nothing_sent = record {
  asked = λ k. [];
  sent = λ k. record { rest = []; reads = record { front = []; is = refl; are_requests = refl; no_more = nothing_begins_none }; mean = tt; apart = tt };
  share_none = λ j k differ. tt;
}

no_front : (later before : List Entry) → [] ≡ later ++ before → before ≡ []
no_front [] before e = sym e
no_front (e ∷ later) before is = absurd (let no : [] ≡ e ∷ (later ++ before) = is in cc)

are_told : (known : Known) (steps : List Step) (tape : List Entry) → HasTape known steps tape → AreTold steps tape
are_told known [] tape h = h
are_told known (step ∷ earlier) tape h =
    let taped : IsTaped known earlier step h.1 h.0 = h.3 in
    (h.0, h.1, h.2, record { step_is = taped.step_is; read = taped.told.read; table = taped.told.table; decodes = taped.told.decodes }, are_told known earlier h.1 h.4)

always : (known : Known) (steps : List Step) (tape later before : List Entry) → HasTape known steps tape → tape ≡ later ++ before → SmugglesNothing before
always known [] tape later before h is = subst SmugglesNothing (sym (no_front later before (sym h ∙ is))) nothing_sent
always known (step ∷ earlier) tape later before h is =
    let taped : IsTaped known earlier step h.1 h.0 = h.3 in
    let there = sym h.2 ∙ is in
    at_once known before (holds_soon known later before (subst (HoldsInTurn (ClausesHold known)) there taped.in_turn)
    (record { later = []; put_out = tt; clauses = subst (ClausesHold known) there taped.clauses }))

pub headline_smuggles_nothing : (setup : Setup) (log : List Step) → Headline setup log → NothingSmuggled log
headline_smuggles_nothing setup log h = record {
  tape = h.tape;
  are_told = are_told h.known (reverse log) h.tape h.has_tape;
  always = λ later before is. always h.known (reverse log) h.tape later before h.has_tape is;
}
