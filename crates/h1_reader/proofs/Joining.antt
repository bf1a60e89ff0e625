-- How steps go on, and octets of a body that are joined to those before them.
use Rattle.std.proofs.Common.{◌≡◌, ℕ, ◌<◌, ◌≤◌, Bool, List, [], ◌∷◌, ◌++◌, length, map, take, get_or, refl, sym, ap, ◌∙◌, subst, append_assoc, inl, inr, arith}
use Rattle.std.specs.Prelude.{Result, Ok, Err, IfOk}
use Rattle.std.specs.List.{concat}
use Rattle.std.proofs.lemmas.List.{append-nil, take_all}
use Rattle.model.specs.ResponseHeads as model
use Rattle.h1_reader.specs.Parts.{Part}
use Rattle.h1_reader.specs.Parts.Part.{Interim, Final, Body}
use Rattle.h1_reader.specs.Standing.{State, InChunked, Stands, StandsAt, Hears}
use Rattle.h1_reader.specs.GoesOn.{GoesOn, IsJoined}
use Rattle.response_texts.specs.declared.fault.ResponseFault.{ResponseFault}
use Rattle.h1_reader.specs.declared.reader.Place.{Place}
use Rattle.h1_reader.specs.declared.reader.Place.TheVariants.{Chunk, ChunkEnd}
use Rattle.h1_reader.proofs.Steps.{hears_none}

-- ---- steps

pub goes_on : (old new : State) (said says : List Part) (octets : List ℕ) → ((added : List Part) × (says ≡ said ++ added) × Hears old octets added new) → GoesOn old said octets new says
goes_on old new said says octets h = record {
  same = h.2.same;
  stands = λ text before s.
      subst (λ (o : List Part). Stands (text ++ octets) o new) (append_assoc before said h.0 ∙ ap (λ (o : List Part). before ++ o) (sym h.1)) (h.2.stands text (before ++ said) s);
}

pub goes_nowhere : (a : State) (said : List Part) → GoesOn a said [] a said
goes_nowhere a said = goes_on a a said said [] ([], sym (append-nil said), hears_none a)

pub goes_then : (a b c : State) (p q r : List Part) (xs ys : List ℕ) → GoesOn a p xs b q → GoesOn b q ys c r → GoesOn a p (xs ++ ys) c r
goes_then a b c p q r xs ys h k = record {
  same = k.same ∙ h.same;
  stands = λ text before s. subst (λ (o : List ℕ). Stands o (before ++ r) c) (append_assoc text xs ys) (k.stands (text ++ xs) before (h.stands text before s));
}

-- what is said from nothing is what is added
pub hears_from_nothing : (old new : State) (octets : List ℕ) (says : List Part) → GoesOn old [] octets new says → Hears old octets says new
hears_from_nothing old new octets says h = record {
  same = h.same;
  stands = λ text before s. h.stands text before (subst (λ (o : List Part). Stands text o old) (sym (append-nil before)) s);
}

-- all octets are so many
pub goes_all : (old new : State) (said says : List Part) (octets : List ℕ) → GoesOn old said octets new says → GoesOn old said (take (length octets) octets) new says
goes_all old new said says octets h = subst (λ (o : List ℕ). GoesOn old said o new says) (sym (take_all (length octets) octets (omega arith))) h

-- where one octet is taken and nothing is said
pub first_goes : (old new : State) (said : List Part) (octets : List ℕ) (result : Result ℕ ResponseFault) → 0 < length octets → IfOk result (λ used. (used ≡ 1) × Hears old (get_or octets 0 0 ∷ []) [] new)
    → IfOk result (λ used. (0 < used) × (used ≤ length octets) × GoesOn old said (take used octets) new said)
first_goes old new said octets (Err f) some h = tt
first_goes old new said [] (Ok used) some h = absurd (omega arith)
first_goes old new said (octet ∷ octets) (Ok used) some h =
    let one : used ≡ 1 = h.0 in (
      omega arith,
      omega arith,
      subst (λ n. GoesOn old said (take n (octet ∷ octets)) new said) (sym one) (goes_on old new said said (octet ∷ []) ([], sym (append-nil said), h.1)),
    )

-- ---- joined octets

-- Two bodies that were said last are the last ones of all.
pub record AreLast (before : List Part) (first second : List ℕ) (interims : List model.Head) (head : model.Head) (bodies : List (List ℕ)) : Type 0 where
  pub others : List (List ℕ)
  pub bodies_are : bodies ≡ others ++ first ∷ second ∷ []
  pub before_is : before ≡ map Interim interims ++ (Final head ∷ map Body others)

pub record AreLastBodies (before : List Part) (first second : List ℕ) (bodies : List (List ℕ)) : Type 0 where
  pub others : List (List ℕ)
  pub bodies_are : bodies ≡ others ++ first ∷ second ∷ []
  pub before_is : before ≡ map Body others

last_bodies : (before : List Part) (u w : List ℕ) (bodies : List (List ℕ)) → before ++ Body u ∷ Body w ∷ [] ≡ map Body bodies → AreLastBodies before u w bodies
last_bodies [] u w [] e = absurd (let none : ◌≡◌ {A = List Part} (Body u ∷ Body w ∷ []) [] = e in cc)
last_bodies [] u w (a ∷ []) e = absurd (let none : ◌≡◌ {A = List Part} (Body w ∷ []) [] = cc in cc)
last_bodies [] u w (a ∷ (b ∷ [])) e =
    let one : Body u ≡ Body a = cc in
    let two : Body w ≡ Body b = cc in
    let first : a ≡ u = cc in
    let second : b ≡ w = cc in
    record { others = []; bodies_are = ap (λ (o : List ℕ). o ∷ b ∷ []) first ∙ ap (λ (o : List ℕ). u ∷ o ∷ []) second; before_is = refl }
last_bodies [] u w (a ∷ (b ∷ (c ∷ bodies))) e = absurd (let none : ◌≡◌ {A = List Part} [] (Body c ∷ map Body bodies) = cc in cc)
last_bodies (p ∷ before) u w [] e = absurd (let none : ◌≡◌ {A = List Part} (p ∷ (before ++ Body u ∷ Body w ∷ [])) [] = e in cc)
last_bodies (p ∷ before) u w (a ∷ bodies) e =
    let here : p ≡ Body a = cc in
    let rest : before ++ Body u ∷ Body w ∷ [] ≡ map Body bodies = cc in
    let more = last_bodies before u w bodies rest in
    record { others = a ∷ more.others; bodies_are = ap (λ (o : List (List ℕ)). a ∷ o) more.bodies_are; before_is = ap (λ (o : Part). o ∷ before) here ∙ ap (λ (o : List Part). Body a ∷ o) more.before_is }

last_two : (before : List Part) (u w : List ℕ) (interims : List model.Head) (head : model.Head) (bodies : List (List ℕ))
    → before ++ Body u ∷ Body w ∷ [] ≡ map Interim interims ++ (Final head ∷ map Body bodies) → AreLast before u w interims head bodies
last_two [] u w [] head bodies e = absurd (let first : Body u ≡ Final head = cc in cc)
last_two [] u w (i ∷ interims) head bodies e = absurd (let first : Body u ≡ Interim i = cc in cc)
last_two (p ∷ before) u w [] head bodies e =
    let here : p ≡ Final head = cc in
    let rest : before ++ Body u ∷ Body w ∷ [] ≡ map Body bodies = cc in
    let more = last_bodies before u w bodies rest in
    record { others = more.others; bodies_are = more.bodies_are; before_is = ap (λ (o : Part). o ∷ before) here ∙ ap (λ (o : List Part). Final head ∷ o) more.before_is }
last_two (p ∷ before) u w (i ∷ interims) head bodies e =
    let here : p ≡ Interim i = cc in
    let rest : before ++ Body u ∷ Body w ∷ [] ≡ map Interim interims ++ (Final head ∷ map Body bodies) = cc in
    let more = last_two before u w interims head bodies rest in
    record { others = more.others; bodies_are = more.bodies_are; before_is = ap (λ (o : Part). o ∷ before) here ∙ ap (λ (o : List Part). Interim i ∷ o) more.before_is }

concat_two : (others : List (List ℕ)) (u w : List ℕ) → concat (others ++ u ∷ w ∷ []) ≡ concat (others ++ (u ++ w) ∷ [])
concat_two [] u w = sym (append_assoc u w [])
concat_two (other ∷ others) u w = ap (λ (o : List ℕ). other ++ o) (concat_two others u w)

map_last : (others : List (List ℕ)) (u : List ℕ) → map Body (others ++ u ∷ []) ≡ map Body others ++ Body u ∷ []
map_last [] u = refl
map_last (other ∷ others) u = ap (λ (o : List Part). Body other ∷ o) (map_last others u)

chunked_joined : {named : List (List ℕ)} (to_head : Bool) (behind next text : List ℕ) (before : List Part) (u w : List ℕ) → InChunked named to_head behind next text (before ++ Body u ∷ Body w ∷ []) → InChunked named to_head behind next text (before ++ Body (u ++ w) ∷ [])
chunked_joined {named} to_head behind next text before u w c =
    let b = c.body in
    let told : before ++ Body u ∷ Body w ∷ [] ≡ map Interim b.interims ++ (Final b.head ∷ map Body b.bodies) =
    b.told ∙ ap (λ (o : List Part). map Interim b.interims ++ (Final b.head ∷ o)) (append-nil (map Body b.bodies)) in
    let l = last_two before u w b.interims b.head b.bodies told in
    record {
      chunks = c.chunks;
      front = c.front;
      body = record {
        interims = b.interims;
        head = b.head;
        front = b.front;
        head_text = b.head_text;
        bodies = l.others ++ (u ++ w) ∷ [];
        is = b.is;
        are_interims = b.are_interims;
        few = b.few;
        is_final = b.is_final;
        has_octets = b.has_octets ∙ ap concat l.bodies_are ∙ concat_two l.others u w;
        told = ap (λ (o : List Part). o ++ Body (u ++ w) ∷ []) l.before_is ∙ append_assoc (map Interim b.interims) (Final b.head ∷ map Body l.others) (Body (u ++ w) ∷ [])
            ∙ ap (λ (o : List Part). map Interim b.interims ++ (Final b.head ∷ o)) (sym (map_last l.others (u ++ w)) ∙ sym (append-nil (map Body (l.others ++ (u ++ w) ∷ []))));
      };
      are_chunks = c.are_chunks;
    }

-- Where a reader stands for two bodies that it said last, it stands for the joined one.
abbrev pub MayJoin : State → Type 0
MayJoin state = (text : List ℕ) (before : List Part) (u w : List ℕ) → Stands text (before ++ Body u ∷ Body w ∷ []) state → Stands text (before ++ Body (u ++ w) ∷ []) state

join_at : (place : Place) (state : State) → state.place ≡ place
    → ((text : List ℕ) (before : List Part) (u w : List ℕ) → StandsAt place state.to_head state.held text (before ++ Body u ∷ Body w ∷ []) → StandsAt place state.to_head state.held text (before ++ Body (u ++ w) ∷ []))
    → MayJoin state
join_at place state e joins text before u w s =
    subst (λ (p : Place). StandsAt p state.to_head state.held text (before ++ Body (u ++ w) ∷ [])) (sym e)
    (joins text before u w (subst (λ (p : Place). StandsAt p state.to_head state.held text (before ++ Body u ∷ Body w ∷ [])) e s))

pub in_chunk_joins : (state : State) (left : ℕ) → state.place ≡ Chunk left → MayJoin state
in_chunk_joins state left e =
    join_at (Chunk left) state e (λ text before u w b.
    record { line = b.line; size = b.size; next = b.next; chunked = chunked_joined state.to_head (b.line ++ b.next) b.next text before u w b.chunked; is_line = b.is_line; has_size = b.has_size; some = b.some })

pub behind_chunk_joins : (state : State) → state.place ≡ ChunkEnd → MayJoin state
behind_chunk_joins state e =
    join_at ChunkEnd state e (λ text before u w b.
    record { line = b.line; next = b.next; chunked = chunked_joined state.to_head (b.line ++ b.next ++ []) b.next text before u w b.chunked; is_line = b.is_line; some = b.some })

pub goes_joined : (old new : State) (said says : List Part) (xs : List ℕ) → Hears old xs (Body xs ∷ []) new → MayJoin new → IsJoined said xs says → GoesOn old said xs new says
goes_joined old new said says xs h join (inl alone) = goes_on old new said says xs (Body xs ∷ [], alone, h)
goes_joined old new said says xs h join (inr (rest, last, was, is)) = record {
  same = h.same;
  stands = λ text before s.
      let there : Stands (text ++ xs) ((before ++ said) ++ Body xs ∷ []) new = h.stands text (before ++ said) s in
      let parts : (before ++ said) ++ Body xs ∷ [] ≡ (before ++ rest) ++ Body last ∷ Body xs ∷ [] =
      ap (λ (o : List Part). (before ++ o) ++ Body xs ∷ []) was ∙ regrouped before rest last xs in
      subst (λ (o : List Part). Stands (text ++ xs) o new) (append_assoc before rest (Body (last ++ xs) ∷ []) ∙ ap (λ (o : List Part). before ++ o) (sym is))
      (join (text ++ xs) (before ++ rest) last xs (subst (λ (o : List Part). Stands (text ++ xs) o new) parts there));
}
  where
    regrouped : (before rest : List Part) (last xs : List ℕ) → (before ++ (rest ++ Body last ∷ [])) ++ Body xs ∷ [] ≡ (before ++ rest) ++ Body last ∷ Body xs ∷ []
    regrouped before rest last xs =
        ap (λ (o : List Part). o ++ Body xs ∷ []) (sym (append_assoc before rest (Body last ∷ []))) ∙ append_assoc (before ++ rest) (Body last ∷ []) (Body xs ∷ [])
