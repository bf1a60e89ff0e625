-- What each step of a reader does to where it stands.
use Rattle.std.proofs.Common.{suc, zero, ◌≡◌, ℕ, ◌+◌, ◌-◌, ◌<◌, ◌≤◌, Bool, true, false, List, [], ◌∷◌, ◌++◌, length, take, map, refl, sym, ap, ◌∙◌, subst, append_assoc, length-append, arith}
use Rattle.std.specs.List.{concat}
use Rattle.std.proofs.lemmas.List.{append-nil, map-append, take_all}
use Rattle.std.proofs.lemmas.List.Folds.{concat-append}
use Rattle.std.proofs.lemmas.Bool.{eqb-true}
use Rattle.std.specs.Prelude.{◌==◌}
use Rattle.httparse.specs.Grammar.{HasNoResponse, MayBecomeResponse}
use Rattle.model.specs.Octets.{Joined}
use Rattle.model.specs.ResponseHeads as model
use Rattle.model.specs.ResponseHeads.Framing.{Bodiless as IsBodiless, Chunks as IsChunks, Sized as IsSized, UntilEnd as IsUntilEnd}
use Rattle.model.specs.Responses.{HasBody}
use Rattle.model.proofs.Http1Runs.{same_rest, BeginsNone}
use Rattle.model.proofs.ResponseHeadReadings.{one_interim}
use Rattle.model.specs.Messages.{Field}
use Rattle.h1_reader.specs.Parts.{Part, ends_with}
use Rattle.h1_reader.specs.Parts.Part.{Interim, Final, Body, Done}
use Rattle.response_texts.specs.HeadSizes.{field_octets}
use Rattle.response_texts.specs.Framings.{framing_view}
use Rattle.h1_reader.specs.Begins.{Begins, place_behind, told_behind}
use Rattle.response_texts.specs.declared.framing.Framing.{Framing}
use Rattle.response_texts.specs.declared.framing.Framing.TheVariants as ways
use Rattle.response_texts.proofs.FrontLemmas.{none_in_nothing, nothing_may_become, nothing_is_short}
use Rattle.response_texts.specs.declared.chunk_line.LinePlace.TheVariants.{Size}
use Rattle.h1_reader.specs.Standing.{Held, names_held, State, BeforeHead, InBody, InSized, InRest, InLine, IsPast, IsKept, StandsAt, Stands, Hears}
use Rattle.h1_reader.specs.declared.reader.Place.{Place}
use Rattle.h1_reader.specs.declared.reader.Place.TheVariants.{Head, Sized, UntilEnd, Past}

-- ---- texts and pieces

ends_told : (f m xs : List Part) → (f ++ (m ++ [])) ++ xs ≡ f ++ (m ++ xs)
ends_told f m xs = ap (λ (o : List Part). (f ++ o) ++ xs) (append-nil m) ∙ append_assoc f m xs

body_told : (f : List Part) (h : Part) (bodies : List (List ℕ)) (xs : List ℕ)
    → f ++ (h ∷ map Body bodies ++ (Body xs ∷ [])) ≡ f ++ (h ∷ map Body (bodies ++ xs ∷ []) ++ [])
body_told f h bodies xs =
    let same : map Body bodies ++ Body xs ∷ [] ≡ map Body (bodies ++ xs ∷ []) = sym (map-append Body bodies (xs ∷ [])) in
    ap (λ (o : List Part). f ++ (h ∷ o)) same ∙ ap (λ (o : List Part). f ++ (h ∷ o)) (sym (append-nil (map Body (bodies ++ xs ∷ []))))

pub one_concat : (bodies : List (List ℕ)) (xs : List ℕ) → concat (bodies ++ xs ∷ []) ≡ concat bodies ++ xs
one_concat bodies xs = concat-append bodies (xs ∷ []) ∙ ap (λ (o : List ℕ). concat bodies ++ o) (append-nil xs)

-- octets of a body are told
pub body_step : (to_head : Bool) (framing : model.Framing) (text rest octets xs : List ℕ) (parts : List Part)
    → InBody to_head framing text rest octets parts [] → InBody to_head framing (text ++ xs) (rest ++ xs) (octets ++ xs) (parts ++ Body xs ∷ []) []
body_step to_head framing text rest octets xs parts b = record {
  interims = b.interims;
  head = b.head;
  front = b.front;
  head_text = b.head_text;
  bodies = b.bodies ++ xs ∷ [];
  is = ap (λ (o : List ℕ). o ++ xs) b.is ∙ append_assoc (b.front ++ b.head_text) rest xs;
  are_interims = b.are_interims;
  few = b.few;
  is_final = b.is_final;
  has_octets = ap (λ (o : List ℕ). o ++ xs) b.has_octets ∙ sym (one_concat b.bodies xs);
  told = ap (λ (o : List Part). o ++ Body xs ∷ []) b.told ∙ ends_told (map Interim b.interims) (Final b.head ∷ map Body b.bodies) (Body xs ∷ [])
      ∙ body_told (map Interim b.interims) (Final b.head) b.bodies xs;
}

-- the end is told, with trailers where there are some
pub end_step : (to_head : Bool) (framing : model.Framing) (text rest octets : List ℕ) (parts : List Part) (trailers : List Field)
    → InBody to_head framing text rest octets parts [] → InBody to_head framing text rest octets (parts ++ ends_with trailers) (ends_with trailers)
end_step to_head framing text rest octets parts trailers b = record {
  interims = b.interims;
  head = b.head;
  front = b.front;
  head_text = b.head_text;
  bodies = b.bodies;
  is = b.is;
  are_interims = b.are_interims;
  few = b.few;
  is_final = b.is_final;
  has_octets = b.has_octets;
  told = ap (λ (o : List Part). o ++ ends_with trailers) b.told ∙ ends_told (map Interim b.interims) (Final b.head ∷ map Body b.bodies) (ends_with trailers);
}

-- octets past the end
pub past_step : (to_head : Bool) (framing : model.Framing) (text rest octets xs : List ℕ) (parts ends : List Part)
    → InBody to_head framing text rest octets parts ends → InBody to_head framing (text ++ xs) (rest ++ xs) octets parts ends
past_step to_head framing text rest octets xs parts ends b = record {
  interims = b.interims;
  head = b.head;
  front = b.front;
  head_text = b.head_text;
  bodies = b.bodies;
  is = ap (λ (o : List ℕ). o ++ xs) b.is ∙ append_assoc (b.front ++ b.head_text) rest xs;
  are_interims = b.are_interims;
  few = b.few;
  is_final = b.is_final;
  has_octets = b.has_octets;
  told = b.told;
}

false_true : ◌≡◌ {A = Bool} false true → ⊥
false_true e = cc

-- a whole body is whole whatever follows
whole_longer : (framing : model.Framing) (rest octets xs : List ℕ) (trailers : List Field) → HasBody framing false rest octets trailers → HasBody framing false (rest ++ xs) octets trailers
whole_longer IsBodiless rest octets xs trailers w = w
whole_longer (IsChunks named) rest octets xs trailers w = record {
  chunks = w.chunks;
  front = w.front;
  line = w.line;
  section = w.section;
  past = w.past ++ xs;
  is = ap (λ (o : List ℕ). o ++ xs) w.is ∙ append_assoc (w.front ++ w.line ++ w.section) w.past xs;
  are_chunks = w.are_chunks;
  is_last = w.is_last;
  are_trailers = w.are_trailers;
  is_body = w.is_body;
  passes = w.passes;
}
whole_longer (IsSized count) rest octets xs trailers w =
    (record { past = w.0.past ++ xs; is = ap (λ (o : List ℕ). o ++ xs) w.0.is ∙ append_assoc octets w.0.past xs; has_count = w.0.has_count }, w.1)
whole_longer IsUntilEnd rest octets xs trailers w = absurd (false_true w.0)

-- ---- interim heads

module _ {A : Type 0} (Reads : List ℕ → A → Type 0) where
  pub joined_more : (s x : List ℕ) (hs : List A) (h : A) → Joined Reads s hs → Reads x h → Joined Reads (s ++ x) (hs ++ h ∷ [])
  joined_more s x [] h p q = (x, [], q, ap (λ (o : List ℕ). o ++ x) p ∙ sym (append-nil x), refl)
  joined_more s x (k ∷ hs) h p q = (p.0, p.1 ++ x, p.2, ap (λ (o : List ℕ). o ++ x) p.3 ∙ append_assoc p.0 p.1 x, joined_more p.1 x hs h p.4 q)

pub joined_longer : (s t x y : List ℕ) (hs ks : List model.Head) → Joined model.Interim s hs → Joined model.Interim t ks → BeginsNone model.Interim y → s ++ x ≡ t ++ y → length hs ≤ length ks
joined_longer s t x y [] ks p q none e = omega arith
joined_longer s t x y (h ∷ hs) [] p q none e =
    absurd (none p.0 (p.1 ++ x) h p.2 (sym (ap (λ (o : List ℕ). o ++ y) q) ∙ sym e ∙ ap (λ (o : List ℕ). o ++ x) p.3 ∙ append_assoc p.0 p.1 x))
joined_longer s t x y (h ∷ hs) (k ∷ ks) p q none e =
    let whole : p.0 ++ (p.1 ++ x) ≡ q.0 ++ (q.1 ++ y) =
    sym (append_assoc p.0 p.1 x) ∙ ap (λ (o : List ℕ). o ++ x) (sym p.3) ∙ e ∙ ap (λ (o : List ℕ). o ++ y) q.3 ∙ append_assoc q.0 q.1 y in
    let same = one_interim p.0 q.0 (p.1 ++ x) (q.1 ++ y) h k p.2 q.2 whole in
    let more : length hs ≤ length ks = joined_longer p.1 q.1 x y hs ks p.4 q.4 none (same_rest p.0 q.0 (p.1 ++ x) (q.1 ++ y) same.0 whole) in
    omega arith

-- ---- where a reader stands

pub at : (place : Place) (state : State) (text : List ℕ) (parts : List Part) → state.place ≡ place → Stands text parts state → StandsAt place state.to_head state.held text parts
at place state text parts e s = subst (λ (p : Place). StandsAt p state.to_head state.held text parts) e s

abbrev pub state_of : Bool → Place → Held → State
state_of to_head place held = record { to_head = to_head; place = place; held = held }

-- these octets are held, and the fields that were
abbrev pub with_octets : List ℕ → Held → Held
with_octets octets held = record { octets = octets; connections = held.connections; keeps = held.keeps }

-- the reader goes to a place, holding this
pub arrives : (new : State) (to_head : Bool) (place : Place) (held : Held) (text : List ℕ) (parts : List Part) → new ≡ state_of to_head place held → StandsAt place to_head held text parts → Stands text parts new
arrives new to_head place held text parts e s = subst (λ (n : State). Stands text parts n) (sym e) s

pub hears_rest : (old : State) (xs : List ℕ) → old.place ≡ UntilEnd → Hears old xs (Body xs ∷ []) old
hears_rest old xs e = record {
  same = refl;
  stands = λ text before s.
      let b = at UntilEnd old text before e s in
      arrives old old.to_head UntilEnd old.held (text ++ xs) (before ++ Body xs ∷ []) (λ i. record { to_head = old.to_head; place = e i; held = old.held })
      (record { octets = b.octets ++ xs; body = body_step old.to_head IsUntilEnd text b.octets b.octets xs before b.body });
}

pub hears_past : (old : State) (xs : List ℕ) → old.place ≡ Past → Hears old xs [] old
hears_past old xs e = record {
  same = refl;
  stands = λ text before s.
      let b = at Past old text before e s in
      arrives old old.to_head Past old.held (text ++ xs) (before ++ []) (λ i. record { to_head = old.to_head; place = e i; held = old.held })
      (let whole : IsPast old.to_head (text ++ xs) before = record {
        framing = b.framing;
        rest = b.rest ++ xs;
        octets = b.octets;
        trailers = b.trailers;
        body = past_step old.to_head b.framing text b.rest b.octets xs before (ends_with b.trailers) b.body;
        whole = whole_longer b.framing b.rest b.octets xs b.trailers b.whole;
      } in subst (λ (o : List Part). IsPast old.to_head (text ++ xs) o) (sym (append-nil before)) whole);
}

pub hears_sized : (old new : State) (left : ℕ) (xs : List ℕ) → old.place ≡ Sized left → length xs < left → new ≡ record { to_head = old.to_head; place = Sized (left - length xs); held = old.held }
    → Hears old xs (Body xs ∷ []) new
hears_sized old new left xs e less is = record {
  same = ap (λ (n : State). n.to_head) is;
  stands = λ text before s.
      let b = at (Sized left) old text before e s in
      let sum : length b.octets + left ≡ b.count = b.has_count in
      let longer : length (b.octets ++ xs) ≡ length b.octets + length xs = length-append b.octets xs in
      arrives new old.to_head (Sized (left - length xs)) old.held (text ++ xs) (before ++ Body xs ∷ []) is
      (record { octets = b.octets ++ xs; count = b.count; body = body_step old.to_head (IsSized b.count) text b.octets b.octets xs before b.body; has_count = omega arith; some = omega arith });
}

pub hears_sized_all : (old new : State) (left : ℕ) (xs : List ℕ) → old.place ≡ Sized left → length xs ≡ left → new ≡ record { to_head = old.to_head; place = Past; held = old.held }
    → Hears old xs (Body xs ∷ Done ∷ []) new
hears_sized_all old new left xs e all is = record {
  same = ap (λ (n : State). n.to_head) is;
  stands = λ text before s.
      let b = at (Sized left) old text before e s in
      let sum : length b.octets + left ≡ b.count = b.has_count in
      let longer : length (b.octets ++ xs) ≡ length b.octets + length xs = length-append b.octets xs in
      let body = end_step old.to_head (IsSized b.count) (text ++ xs) (b.octets ++ xs) (b.octets ++ xs) (before ++ Body xs ∷ []) [] (body_step old.to_head (IsSized b.count) text b.octets b.octets xs before b.body) in
      let whole : IsPast old.to_head (text ++ xs) ((before ++ Body xs ∷ []) ++ Done ∷ []) = record {
        framing = IsSized b.count;
        rest = b.octets ++ xs;
        octets = b.octets ++ xs;
        trailers = [];
        body = body;
        whole = (record { past = []; is = sym (append-nil (b.octets ++ xs)); has_count = omega arith }, refl);
      } in
      arrives new old.to_head Past old.held (text ++ xs) (before ++ Body xs ∷ Done ∷ []) is
      (subst (λ (o : List Part). IsPast old.to_head (text ++ xs) o) (append_assoc before (Body xs ∷ []) (Done ∷ [])) whole);
}

pub hears_more : (old new : State) (count : ℕ) (xs held : List ℕ) → old.place ≡ Head count → held ≡ old.held.octets ++ xs → HasNoResponse held → MayBecomeResponse held → length held ≤ 16384
    → new ≡ record { to_head = old.to_head; place = Head count; held = with_octets held old.held }
    → Hears old xs [] new
hears_more old new count xs held e longer none may short is = record {
  same = ap (λ (n : State). n.to_head) is;
  stands = λ text before s.
      let b = at (Head count) old text before e s in
      arrives new old.to_head (Head count) (with_octets held old.held) (text ++ xs) (before ++ []) is (record {
        interims = b.interims;
        front = b.front;
        is = ap (λ (o : List ℕ). o ++ xs) b.is ∙ append_assoc b.front old.held.octets xs ∙ ap (λ (o : List ℕ). b.front ++ o) (sym longer);
        are_interims = b.are_interims;
        has_count = b.has_count;
        few = b.few;
        no_head = none;
        may_become = may;
        short = short;
        told = append-nil before ∙ b.told;
      });
}

pub hears_interim : (old new : State) (count : ℕ) (xs : List ℕ) (head : model.Head) → old.place ≡ Head count → count < 8 → model.Interim (old.held.octets ++ xs) head
    → new ≡ record { to_head = old.to_head; place = Head (count + 1); held = with_octets [] old.held } → Hears old xs (Interim head ∷ []) new
hears_interim old new count xs head e less p is = record {
  same = ap (λ (n : State). n.to_head) is;
  stands = λ text before s.
      let b = at (Head count) old text before e s in
      let counted : count ≡ length b.interims = b.has_count in
      let longer : length (b.interims ++ head ∷ []) ≡ length b.interims + 1 = length-append b.interims (head ∷ []) in
      arrives new old.to_head (Head (count + 1)) (with_octets [] old.held) (text ++ xs) (before ++ Interim head ∷ []) is (record {
        interims = b.interims ++ head ∷ [];
        front = b.front ++ (old.held.octets ++ xs);
        is = ap (λ (o : List ℕ). o ++ xs) b.is ∙ append_assoc b.front old.held.octets xs ∙ sym (append-nil (b.front ++ (old.held.octets ++ xs)));
        are_interims = joined_more model.Interim b.front (old.held.octets ++ xs) b.interims head b.are_interims p;
        has_count = omega arith;
        few = omega arith;
        no_head = none_in_nothing;
        may_become = nothing_may_become;
        short = nothing_is_short;
        told = ap (λ (o : List Part). o ++ Interim head ∷ []) b.told ∙ sym (map-append Interim b.interims (head ∷ []));
      });
}

-- a final head is told, and nothing of its body is there yet
pub final_step : (old : State) (count : ℕ) (xs text : List ℕ) (before : List Part) (head : model.Head) (framing : model.Framing) → model.Final old.to_head (old.held.octets ++ xs) head framing
    → BeforeHead count old.held.octets text before → InBody old.to_head framing (text ++ xs) [] [] (before ++ Final head ∷ []) []
final_step old count xs text before head framing p b =
    let counted : count ≡ length b.interims = b.has_count in
    let few : count ≤ 8 = b.few in
    record {
      interims = b.interims;
      head = head;
      front = b.front;
      head_text = old.held.octets ++ xs;
      bodies = [];
      is = ap (λ (o : List ℕ). o ++ xs) b.is ∙ append_assoc b.front old.held.octets xs ∙ sym (append-nil (b.front ++ (old.held.octets ++ xs)));
      are_interims = b.are_interims;
      few = omega arith;
      is_final = p;
      has_octets = refl;
      told = ap (λ (o : List Part). o ++ Final head ∷ []) b.told;
    }

-- ---- one step after another

pub hears_none : (old : State) → Hears old [] [] old
hears_none old = record {
  same = refl;
  stands = λ text before s.
      let longer : Stands (text ++ []) before old = subst (λ (o : List ℕ). Stands o before old) (sym (append-nil text)) s in
      subst (λ (o : List Part). Stands (text ++ []) o old) (sym (append-nil before)) longer;
}

pub hears_then : (a b c : State) (xs ys : List ℕ) (p q : List Part) → Hears a xs p b → Hears b ys q c → Hears a (xs ++ ys) (p ++ q) c
hears_then a b c xs ys p q h k = record {
  same = k.same ∙ h.same;
  stands = λ text before s.
      let all : Stands ((text ++ xs) ++ ys) ((before ++ p) ++ q) c = k.stands (text ++ xs) (before ++ p) (h.stands text before s) in
      let texts : Stands (text ++ (xs ++ ys)) ((before ++ p) ++ q) c = subst (λ (o : List ℕ). Stands o ((before ++ p) ++ q) c) (append_assoc text xs ys) all in
      subst (λ (o : List Part). Stands (text ++ (xs ++ ys)) o c) (append_assoc before p q) texts;
}

-- all octets are taken
pub all_taken : (a b : State) (xs : List ℕ) (p : List Part) → Hears a xs p b → Hears a (take (length xs) xs) p b
all_taken a b xs p h =
    let all : take (length xs) xs ≡ xs = take_all (length xs) xs (omega arith) in
    subst (λ (o : List ℕ). Hears a o p b) (sym all) h

-- nothing is held
pub nothing_held : (held : List ℕ) (connections : List Field) → field_octets connections ≤ 16384 → held ≡ [] → (length held ≤ 16384) × (field_octets connections ≤ 16384) × HasNoResponse held
nothing_held held connections few e = (rw e (omega arith), few, subst HasNoResponse (sym e) none_in_nothing)

pub kept_head : (place : Place) (count : ℕ) (held : List ℕ) (connections : List Field) → field_octets connections ≤ 16384 → place ≡ Head count → held ≡ [] → (length held ≤ 16384) × (field_octets connections ≤ 16384) × IsKept place held
kept_head place count held connections few e none =
    let kept : IsKept (Head count) held = (nothing_held held connections few none).2 in
    ((nothing_held held connections few none).0, few, subst (λ (p : Place). IsKept p held) (sym e) kept)

-- where a reader stands behind a final head
stands_behind : (framing : Framing) (to_head : Bool) (held : Held) (text : List ℕ) (parts : List Part) → InBody to_head (framing_view (names_held held) framing) text [] [] parts []
    → StandsAt (place_behind framing) to_head held text (parts ++ told_behind framing)
stands_behind ways.Bodiless to_head held text parts b =
    record { framing = IsBodiless; rest = []; octets = []; trailers = []; body = end_step to_head IsBodiless text [] [] parts [] b; whole = (refl, refl) }
stands_behind ways.Chunks to_head held text parts b =
    let same : parts ≡ parts ++ [] = sym (append-nil parts) in
    let few : 0 ≤ 8 = omega arith in
    subst (λ (o : List Part). InLine (names_held held) to_head (Size 0 0) text o) same
    (record { behind = []; chunked = record { chunks = []; front = []; body = b; are_chunks = refl }; is_part = record { are_digits = refl; has_count = refl; few = few; has_size = refl } })
stands_behind (ways.Sized zero) to_head held text parts b =
    record { framing = IsSized 0; rest = []; octets = []; trailers = []; body = end_step to_head (IsSized 0) text [] [] parts [] b; whole = (record { past = []; is = refl; has_count = refl }, refl) }
stands_behind (ways.Sized (suc count)) to_head held text parts b =
    let same : parts ≡ parts ++ [] = sym (append-nil parts) in
    subst (λ (o : List Part). InSized to_head (suc count) text o) same (record { octets = []; count = suc count; body = b; has_count = omega arith; some = omega arith })
stands_behind ways.UntilEnd to_head held text parts b =
    let same : parts ≡ parts ++ [] = sym (append-nil parts) in
    subst (λ (o : List Part). InRest to_head text o) same (record { octets = []; body = b })

pub hears_final : (old mid new : State) (count : ℕ) (xs : List ℕ) (head : model.Head) (framing : Framing) (t0 t1 t2 : List Part) → old.place ≡ Head count
    → model.Final old.to_head (old.held.octets ++ xs) head (framing_view (names_held mid.held) framing) → mid.to_head ≡ old.to_head → Begins framing mid new t1 t2 → t1 ≡ t0 ++ Final head ∷ []
    → (added : List Part) × (t2 ≡ t0 ++ added) × Hears old xs added new
hears_final old mid new count xs head framing t0 t1 t2 e p same begins told = (
  Final head ∷ told_behind framing,
  begins.told ∙ ap (λ (o : List Part). o ++ told_behind framing) told ∙ append_assoc t0 (Final head ∷ []) (told_behind framing),
  record {
    same = ap (λ (n : State). n.to_head) begins.is ∙ same;
    stands = λ text before s.
        let b = final_step old count xs text before head (framing_view (names_held mid.held) framing) p (at (Head count) old text before e s) in
        let there = stands_behind framing old.to_head mid.held (text ++ xs) (before ++ Final head ∷ []) b in
        let is : new ≡ record { to_head = old.to_head; place = place_behind framing; held = mid.held } = begins.is ∙ (λ i. record { to_head = same i; place = place_behind framing; held = mid.held }) in
        let stands : Stands (text ++ xs) ((before ++ Final head ∷ []) ++ told_behind framing) new =
        arrives new old.to_head (place_behind framing) mid.held (text ++ xs) ((before ++ Final head ∷ []) ++ told_behind framing) is there in
        subst (λ (o : List Part). Stands (text ++ xs) o new) (append_assoc before (Final head ∷ []) (told_behind framing)) stands;
  },
)

pub nil_of : (xs : List ℕ) → (length xs == 0) ≡ true → xs ≡ []
nil_of [] e = refl
nil_of (x ∷ xs) e = let none : length (x ∷ xs) ≡ 0 = eqb-true (length (x ∷ xs)) 0 e in absurd (omega arith)

-- a new reader stands for nothing
pub stands_new : (to_head : Bool) (held : Held) → held.octets ≡ [] → Stands [] [] (record { to_head = to_head; place = Head 0; held = held })
stands_new to_head held e =
    let b : BeforeHead 0 [] [] [] = record { interims = []; front = []; is = refl; are_interims = refl; has_count = refl; few = omega arith; no_head = none_in_nothing; may_become = nothing_may_become; short = nothing_is_short; told = refl } in
    subst (λ (o : List ℕ). BeforeHead 0 o [] []) (sym e) b
