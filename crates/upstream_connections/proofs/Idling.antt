-- Which open connections are idle, by rising number, and how many are beside one.
use Rattle.std.proofs.Common.{◌≡◌, ℕ, ◌+◌, ◌<◌, ◌≤◌, ◌==◌, nat_lt, if◌then◌else◌, Bool, true, false, not, ◌&&◌, List, [], ◌∷◌, ◌++◌, length, map, Some, None, refl, sym, ap, ◌∙◌, subst, inl, inr, arith}
use Rattle.std.specs.Prelude.{Option, is_some, suc, reverse, option_map}
use Rattle.std.proofs.lemmas.Bool.{eq-eqb, ne_eqb, eqb-true, ltb-true, cases_lt, false≢true}
use Rattle.std.proofs.lemmas.List.{reverse-append, append-nil, length-reverse}
use Rattle.upstream_response.specs.Waiting.{Answer}
use Rattle.theory_requests.specs.Lines as theory_requests
use Rattle.theory_requests.specs.Lines.{Line, Heard, find, without, is_idle, idle_ones, idle_beside, answer_by}
use Rattle.theory_requests.specs.Lines.Answer.{Pending, Idle, Done}
use Rattle.theory_requests.specs.Lines.Heard.{Partly, Keepable, Finished}
use Rattle.theory_requests.proofs.Lists.{found_key, find_gone, find_map}
use Rattle.upstream_connections.specs.Connections.{Connection, number_of, lives, is_idle_one, idle_count, idle_numbers, Rise, others, among, marked_at, given_at, AreBelow}
use Rattle.upstream_connections.proofs.Openings.{weaker, below_changed}
use Rattle.upstream_connections.proofs.Numbers.{AreUnder, rise_more, others_turned, among_before, among_last, under_more}

-- ---- beside one

-- one that is counted, or isn't
abbrev pub weight : Bool → ℕ
weight b = if b then 1 else 0

-- the numbers of those that are idle
abbrev pub idle_in : List Connection → List ℕ
idle_in cs = idle_ones (lives cs)

-- but one
abbrev pub beside : ℕ → List Connection → List ℕ
beside k cs = others k (idle_in cs)

-- it has none of the numbers below it
none_below : (k : ℕ) (cs : List Connection) → AreBelow k cs → find number_of k cs ≡ None
none_below k [] below = refl
none_below k (c ∷ cs) below =
    ap (λ b. if b then Some c else find number_of k cs) (ne_eqb c.live.k k (let low = below.0 in λ same. omega (arith, low, same)))
    ∙ none_below k cs (weaker c.live.k k cs (let low = below.0 in omega (arith, low)) below.1)

-- one more in front, if it is idle
abbrev pub more : Bool → ℕ → List ℕ → List ℕ
more idle n js = if idle then n ∷ js else js

-- one of another number stays
pub but_other : (k : ℕ) (idle : Bool) (n : ℕ) (js : List ℕ) → (n == k) ≡ false → others k (more idle n js) ≡ more idle n (others k js)
but_other k true n js other = ap (λ b. if not b then n ∷ others k js else others k js) other
but_other k false n js other = refl

-- and one of its number goes
pub but_own : (k : ℕ) (idle : Bool) (n : ℕ) (js : List ℕ) → (n == k) ≡ true → others k (more idle n js) ≡ others k js
but_own k true n js own = ap (λ b. if not b then n ∷ others k js else others k js) own
but_own k false n js own = refl

-- where it isn't open, all are beside it
pub all_beside : (k : ℕ) (cs : List Connection) → find number_of k cs ≡ None → beside k cs ≡ idle_in cs
all_beside k [] none = refl
all_beside k (c ∷ cs) none = by (c.live.k == k) refl none (all_beside k cs)
  where
    by : (b : Bool) → (c.live.k == k) ≡ b → (if b then Some c else find number_of k cs) ≡ None → (find number_of k cs ≡ None → beside k cs ≡ idle_in cs) → beside k (c ∷ cs) ≡ idle_in (c ∷ cs)
    by true own n rest = let clash : ◌≡◌ {A = Option Connection} (Some c) None = n in cc
    by false other n rest = but_other k (is_idle c.live.answer) c.live.k (idle_in cs) other ∙ ap (more (is_idle c.live.answer) c.live.k) (rest n)

counted_more : (idle : Bool) (n : ℕ) (js : List ℕ) → length (more idle n js) ≡ length js + weight idle
counted_more true n js = let size : length (n ∷ js) ≡ suc (length js) = refl in omega (arith, size)
counted_more false n js = omega arith

-- all that are idle are those beside it, and it, if it is
pub all_counted : (k top : ℕ) (cs : List Connection) → AreBelow top cs → idle_count cs ≡ idle_beside k (lives cs) + weight (is_idle_one (find number_of k cs))
all_counted k top [] below = refl
all_counted k top (c ∷ cs) below = by (c.live.k == k) refl (all_counted k c.live.k cs below.1)
  where
    by : (b : Bool) → (c.live.k == k) ≡ b → idle_count cs ≡ idle_beside k (lives cs) + weight (is_idle_one (find number_of k cs)) → idle_count (c ∷ cs) ≡ idle_beside k (lives (c ∷ cs)) + weight (is_idle_one (if b then Some c else find number_of k cs))
    by true own rest =
        let others : length (beside k (c ∷ cs)) ≡ length (idle_in cs) = ap length (but_own k (is_idle c.live.answer) c.live.k (idle_in cs) own ∙ all_beside k cs (subst (λ n. find number_of n cs ≡ None) (eqb-true c.live.k k own) (none_below c.live.k cs below.1))) in
        let all = counted_more (is_idle c.live.answer) c.live.k (idle_in cs) in
        omega (arith, others, all)
    by false other rest =
        let others : length (beside k (c ∷ cs)) ≡ length (more (is_idle c.live.answer) c.live.k (beside k cs)) = ap length (but_other k (is_idle c.live.answer) c.live.k (idle_in cs) other) in
        let all = counted_more (is_idle c.live.answer) c.live.k (idle_in cs) in
        let still = counted_more (is_idle c.live.answer) c.live.k (beside k cs) in
        omega (arith, others, all, still, rest)

-- ---- what becomes of one

-- what changes of one alone leaves those beside it
pub beside_changed : (k : ℕ) (f : Connection → Connection) → ((c : Connection) → (f c).live.k ≡ c.live.k) → ((c : Connection) → (c.live.k == k) ≡ false → (f c).live.answer ≡ c.live.answer) → (cs : List Connection) → beside k (map f cs) ≡ beside k cs
beside_changed k f number same [] = refl
beside_changed k f number same (c ∷ cs) = by (c.live.k == k) refl (beside_changed k f number same cs)
  where
    by : (b : Bool) → (c.live.k == k) ≡ b → beside k (map f cs) ≡ beside k cs → beside k (f c ∷ map f cs) ≡ beside k (c ∷ cs)
    by true own rest =
        but_own k (is_idle (f c).live.answer) (f c).live.k (idle_in (map f cs)) (ap (λ n. n == k) (number c) ∙ own)
        ∙ rest
        ∙ sym (but_own k (is_idle c.live.answer) c.live.k (idle_in cs) own)
    by false other rest =
        but_other k (is_idle (f c).live.answer) (f c).live.k (idle_in (map f cs)) (ap (λ n. n == k) (number c) ∙ other)
        ∙ ap (λ a. more (is_idle a) (f c).live.k (beside k (map f cs))) (same c other)
        ∙ ap (λ n. more (is_idle c.live.answer) n (beside k (map f cs))) (number c)
        ∙ ap (more (is_idle c.live.answer) c.live.k) rest
        ∙ sym (but_other k (is_idle c.live.answer) c.live.k (idle_in cs) other)

-- as does its end
pub beside_without : (k : ℕ) (cs : List Connection) → beside k (without number_of k cs) ≡ beside k cs
beside_without k [] = refl
beside_without k (c ∷ cs) = by (c.live.k == k) refl (beside_without k cs)
  where
    by : (b : Bool) → (c.live.k == k) ≡ b → beside k (without number_of k cs) ≡ beside k cs → beside k (if b then without number_of k cs else c ∷ without number_of k cs) ≡ beside k (c ∷ cs)
    by true own rest = rest ∙ sym (but_own k (is_idle c.live.answer) c.live.k (idle_in cs) own)
    by false other rest =
        but_other k (is_idle c.live.answer) c.live.k (idle_in (without number_of k cs)) other
        ∙ ap (more (is_idle c.live.answer) c.live.k) rest
        ∙ sym (but_other k (is_idle c.live.answer) c.live.k (idle_in cs) other)

-- and all that are idle are beside one that isn't
pub beside_all : (k top : ℕ) (cs : List Connection) → AreBelow top cs → is_idle_one (find number_of k cs) ≡ false → beside k cs ≡ idle_in cs
beside_all k top [] below none = refl
beside_all k top (c ∷ cs) below none = by (c.live.k == k) refl none (beside_all k c.live.k cs below.1)
  where
    by : (b : Bool) → (c.live.k == k) ≡ b → is_idle_one (if b then Some c else find number_of k cs) ≡ false → (is_idle_one (find number_of k cs) ≡ false → beside k cs ≡ idle_in cs) → beside k (c ∷ cs) ≡ idle_in (c ∷ cs)
    by true own off rest =
        but_own k (is_idle c.live.answer) c.live.k (idle_in cs) own
        ∙ all_beside k cs (subst (λ n. find number_of n cs ≡ None) (eqb-true c.live.k k own) (none_below c.live.k cs below.1))
        ∙ sym (ap (λ i. more i c.live.k (idle_in cs)) off)
    by false other off rest = but_other k (is_idle c.live.answer) c.live.k (idle_in cs) other ∙ ap (more (is_idle c.live.answer) c.live.k) (rest off)

-- the lines stay as they are where all else changes
pub lives_same : (f : Connection → Connection) → ((c : Connection) → (f c).live ≡ c.live) → (cs : List Connection) → lives (map f cs) ≡ lives cs
lives_same f same [] = refl
lives_same f same (c ∷ cs) = ap (λ l. l ∷ lives (map f cs)) (same c) ∙ ap (λ ls. c.live ∷ ls) (lives_same f same cs)

-- ---- by rising number

-- one that is idle, as the oldest last
turned_more : (idle : Bool) (n : ℕ) (js : List ℕ) → reverse (more idle n js) ≡ reverse js ++ more idle n []
turned_more true n js = reverse-append (n ∷ []) js
turned_more false n js = sym (append-nil (reverse js))

-- all have numbers below
under_idle : (k top : ℕ) (cs : List Connection) → top ≤ k → AreBelow top cs → AreUnder k (reverse (idle_in cs))
under_idle k top [] le below = tt
under_idle k top (c ∷ cs) le below = by (is_idle c.live.answer) (under_idle k c.live.k cs (let low = below.0 in omega (arith, low, le)) below.1)
  where
    by : (b : Bool) → AreUnder k (reverse (idle_in cs)) → AreUnder k (reverse (more b c.live.k (idle_in cs)))
    by true rest = subst (AreUnder k) (sym (reverse-append (c.live.k ∷ []) (idle_in cs))) (under_more k c.live.k (reverse (idle_in cs)) (let low = below.0 in omega (arith, low, le)) rest)
    by false rest = rest

-- they rise
rise_idle : (top : ℕ) (cs : List Connection) → AreBelow top cs → Rise (reverse (idle_in cs))
rise_idle top [] below = λ i j d lt within. absurd (omega (arith, within))
rise_idle top (c ∷ cs) below = by (is_idle c.live.answer) (rise_idle c.live.k cs below.1)
  where
    by : (b : Bool) → Rise (reverse (idle_in cs)) → Rise (reverse (more b c.live.k (idle_in cs)))
    by true rest = subst Rise (sym (reverse-append (c.live.k ∷ []) (idle_in cs))) (rise_more c.live.k (reverse (idle_in cs)) (under_idle c.live.k c.live.k cs (omega arith) below.1) rest)
    by false rest = rest

-- one that is idle stands among the others
among_others : (k top : ℕ) (cs : List Connection) → AreBelow top cs → is_idle_one (find number_of k cs) ≡ true → reverse (idle_in cs) ≡ among k (reverse (beside k cs))
among_others k top [] below is = absurd (false≢true is)
among_others k top (c ∷ cs) below is = by (c.live.k == k) refl is (among_others k c.live.k cs below.1)
  where
    behind : (b : Bool) → k < c.live.k → among k (reverse (beside k cs)) ++ more b c.live.k [] ≡ among k (reverse (more b c.live.k (beside k cs)))
    behind true less = sym (among_before k c.live.k (reverse (beside k cs)) less) ∙ sym (ap (among k) (reverse-append (c.live.k ∷ []) (beside k cs)))
    behind false less = append-nil (among k (reverse (beside k cs)))

    by : (b : Bool) → (c.live.k == k) ≡ b → is_idle_one (if b then Some c else find number_of k cs) ≡ true → (is_idle_one (find number_of k cs) ≡ true → reverse (idle_in cs) ≡ among k (reverse (beside k cs))) → reverse (idle_in (c ∷ cs)) ≡ among k (reverse (beside k (c ∷ cs)))
    by true own i rest =
        let same : c.live.k ≡ k = eqb-true c.live.k k own in
        ap (λ b. reverse (more b c.live.k (idle_in cs))) i
        ∙ reverse-append (c.live.k ∷ []) (idle_in cs)
        ∙ ap (λ n. reverse (idle_in cs) ++ n ∷ []) same
        ∙ sym (among_last k (reverse (idle_in cs)) (under_idle k c.live.k cs (omega (arith, same)) below.1))
        ∙ sym (ap (λ js. among k (reverse js)) (but_own k (is_idle c.live.answer) c.live.k (idle_in cs) own ∙ all_beside k cs (subst (λ n. find number_of n cs ≡ None) same (none_below c.live.k cs below.1))))
    by false other i rest = elim (cases_lt k c.live.k) [
      | inl less ↦ (
          turned_more (is_idle c.live.answer) c.live.k (idle_in cs)
          ∙ ap (λ js. js ++ more (is_idle c.live.answer) c.live.k []) (rest i)
          ∙ behind (is_idle c.live.answer) less
          ∙ sym (ap (λ js. among k (reverse js)) (but_other k (is_idle c.live.answer) c.live.k (idle_in cs) other))
          )
      | inr from ↦ absurd (false≢true (sym (ap is_idle_one (none_below k cs (weaker c.live.k k cs from below.1))) ∙ i))
    ]

-- ---- what one is that was marked or given

-- it is found with its response
pub marked_found : (k : ℕ) (progress : theory_requests.Answer) (cs : List Connection) (c : Connection) → find number_of k cs ≡ Some c → find number_of k (map (marked_at k progress) cs) ≡ Some (record c { live = record c.live { answer = progress } })
marked_found k progress cs c there =
    find_map number_of (marked_at k progress) (λ x. refl) k cs
    ∙ ap (option_map (marked_at k progress)) there
    ∙ ap (λ b. Some (let n : Connection = record c { live = record c.live { answer = if b then progress else c.live.answer } } in n)) (eq-eqb c.live.k k (found_key number_of k cs c there))

-- and is idle as that says
pub marked_idle : (k : ℕ) (progress : theory_requests.Answer) (cs : List Connection) (o : Option Connection) → find number_of k cs ≡ o → is_idle_one (find number_of k (map (marked_at k progress) cs)) ≡ (is_some o && is_idle progress)
marked_idle k progress cs None none = ap is_idle_one (find_map number_of (marked_at k progress) (λ c. refl) k cs ∙ ap (option_map (marked_at k progress)) none)
marked_idle k progress cs (Some c) there = ap is_idle_one (marked_found k progress cs c there)

-- it isn't where it was given to a stream
pub given_idle : (k stream : ℕ) (answer : Answer) (cs : List Connection) (o : Option Connection) → find number_of k cs ≡ o → is_idle_one (find number_of k (map (given_at k stream answer) cs)) ≡ false
given_idle k stream answer cs None none = ap is_idle_one (find_map number_of (given_at k stream answer) (λ c. refl) k cs ∙ ap (option_map (given_at k stream answer)) none)
given_idle k stream answer cs (Some c) there =
    ap is_idle_one (find_map number_of (given_at k stream answer) (λ c. refl) k cs ∙ ap (option_map (given_at k stream answer)) there)
    ∙ ap (λ b. is_idle (if b then Pending else c.live.answer)) (eq-eqb c.live.k k (found_key number_of k cs c there))

-- where it is idle with what was heard, fewer were than may be
pub heard_room : (most k n : ℕ) (heard : Heard) (cs : List Connection) → is_idle_one (find number_of k (map (marked_at k (answer_by most n heard)) cs)) ≡ true → n < most
heard_room most k n heard cs is = by (find number_of k cs) (sym (marked_idle k (answer_by most n heard) cs (find number_of k cs) refl) ∙ is)
  where
    fits : (h : Heard) → is_idle (answer_by most n h) ≡ true → n < most
    fits Partly i = absurd (false≢true i)
    fits Finished i = absurd (false≢true i)
    fits Keepable i = keep (nat_lt n most) refl i
      where
        keep : (b : Bool) → nat_lt n most ≡ b → is_idle (if b then Idle else Done) ≡ true → n < most
        keep true less j = ltb-true n most less
        keep false from j = absurd (false≢true j)

    by : (o : Option Connection) → (is_some o && is_idle (answer_by most n heard)) ≡ true → n < most
    by None i = absurd (false≢true i)
    by (Some c) i = fits heard i

-- ---- as they lie

-- their numbers rise
pub idle_rise : (cs : List Connection) (idle : List ℕ) → idle ≡ idle_numbers cs → (top : ℕ) → AreBelow top (reverse cs) → Rise idle
idle_rise cs idle are top below = subst Rise (sym are) (rise_idle top (reverse cs) below)

module _ (old new : List Connection) (idle : List ℕ) (were : idle ≡ idle_numbers old) where
  -- where the lines stay as they are
  pub idle_same : (f : Connection → Connection) → ((c : Connection) → (f c).live ≡ c.live) → reverse new ≡ map f (reverse old) → idle ≡ idle_numbers new
  idle_same f same changed =
      were
      ∙ sym (ap (λ ls. reverse (idle_ones ls)) (lives_same f same (reverse old)))
      ∙ sym (ap (λ cs. reverse (idle_in cs)) changed)

  -- where one was opened
  pub idle_opened : (c : Connection) → new ≡ old ++ c ∷ [] → c.live.answer ≡ Pending → idle ≡ idle_numbers new
  idle_opened c grown pending =
      were
      ∙ sym (ap (λ a. reverse (more (is_idle a) c.live.k (idle_in (reverse old)))) pending)
      ∙ sym (ap (λ cs. reverse (idle_in cs)) (reverse-append old (c ∷ [])))
      ∙ sym (ap (λ cs. reverse (idle_in (reverse cs))) grown)

  module _ (k : ℕ) where
    -- those beside one
    are_beside : others k idle ≡ reverse (beside k (reverse old))
    are_beside = ap (others k) were ∙ others_turned k (idle_in (reverse old))

    -- so many are
    pub count_beside : length (others k idle) ≡ idle_beside k (lives (reverse old))
    count_beside = ap length are_beside ∙ length-reverse (beside k (reverse old))

    -- where it isn't idle
    pub idle_stays : (top : ℕ) → AreBelow top (reverse old) → is_idle_one (find number_of k (reverse old)) ≡ false → idle ≡ others k idle
    idle_stays top below off = were ∙ ap reverse (sym (beside_all k top (reverse old) below off)) ∙ sym are_beside

    -- where it was closed
    pub idle_closed : reverse new ≡ without number_of k (reverse old) → others k idle ≡ idle_numbers new
    idle_closed changed =
        are_beside
        ∙ ap reverse (sym (beside_without k (reverse old)) ∙ all_beside k (without number_of k (reverse old)) (find_gone number_of k (reverse old)))
        ∙ sym (ap (λ cs. reverse (idle_in cs)) changed)

    module _ (top : ℕ) (below : AreBelow top (reverse old)) where
      -- where it was given to a stream
      pub idle_given : (stream : ℕ) (answer : Answer) → reverse new ≡ map (given_at k stream answer) (reverse old) → others k idle ≡ idle_numbers new
      idle_given stream answer changed =
          are_beside
          ∙ ap reverse (
          sym (beside_changed k (given_at k stream answer) (λ c. refl) (λ c other. ap (λ b. if b then Pending else c.live.answer) other) (reverse old))
          ∙ beside_all k top (map (given_at k stream answer) (reverse old)) (below_changed (given_at k stream answer) (λ c. refl) top (reverse old) below) (given_idle k stream answer (reverse old) (find number_of k (reverse old)) refl)
          )
          ∙ sym (ap (λ cs. reverse (idle_in cs)) changed)

      module _ (progress : theory_requests.Answer) (changed : reverse new ≡ map (marked_at k progress) (reverse old)) where
        below_new : AreBelow top (reverse new)
        below_new = subst (AreBelow top) (sym changed) (below_changed (marked_at k progress) (λ c. refl) top (reverse old) below)

        beside_new : beside k (reverse old) ≡ beside k (reverse new)
        beside_new =
            sym (beside_changed k (marked_at k progress) (λ c. refl) (λ c other. ap (λ b. if b then progress else c.live.answer) other) (reverse old))
            ∙ sym (ap (beside k) changed)

        -- where it isn't idle with its response so far
        pub idle_struck : is_idle_one (find number_of k (reverse new)) ≡ false → others k idle ≡ idle_numbers new
        idle_struck off = are_beside ∙ ap reverse (beside_new ∙ beside_all k top (reverse new) below_new off)

        -- where it is
        pub idle_entered : is_idle_one (find number_of k (reverse new)) ≡ true → among k (others k idle) ≡ idle_numbers new
        idle_entered on = ap (among k) (are_beside ∙ ap reverse beside_new) ∙ sym (among_others k top (reverse new) below_new on)
