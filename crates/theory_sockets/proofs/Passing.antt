-- What passes through one socket, from call to call.
use Rattle.std.proofs.Common.{◌≡◌, ◌≤◌, ◌+◌, ◌++◌, ◌∷◌, ◌∙◌, ◌⊎◌, ℕ, List, [], length, length-append, inl, inr, refl, sym, ap, subst, append_assoc, append-nil, arith}
use Rattle.std.specs.Prelude.{◌||◌, Bool, true, false, Option, None, Some, is_some, IfSome}
use Rattle.std.specs.Io.KnownBytes.{Appends, Consumes, IsAtEnd}
use Rattle.sockets.specs.Sides.{Goes, GoesTo, GoesFront, GoesFrontTo, IsBegun, put_news}
use Rattle.sockets.specs.declared.side.Side.{Side}
use Rattle.theory_sockets.specs.Told.{Told, nothing, with_more}
use Rattle.theory_sockets.specs.Passed.{Passed, PassedTo}

-- ---- octets

consumes_twice : (a b c : Option (List ℕ)) (xs ys : List ℕ) → Consumes a b xs → Consumes b c ys → Consumes a c (xs ++ ys)
consumes_twice None b c xs ys p q = tt
consumes_twice (Some us) None c xs ys p q = absurd p
consumes_twice (Some us) (Some vs) None xs ys p q = absurd q
consumes_twice (Some us) (Some vs) (Some ws) xs ys p q = p ∙ ap (λ l. xs ++ l) q ∙ sym (append_assoc xs ys ws)

appends_twice : (a b c : Option (List ℕ)) (xs ys : List ℕ) → Appends a b xs → Appends b c ys → Appends a c (xs ++ ys)
appends_twice None b c xs ys p q = tt
appends_twice (Some us) None c xs ys p q = absurd p
appends_twice (Some us) (Some vs) None xs ys p q = absurd q
appends_twice (Some us) (Some vs) (Some ws) xs ys p q = q ∙ ap (λ zs. zs ++ ys) p ∙ append_assoc us xs ys

pub consumes_none : (a : Option (List ℕ)) → Consumes a a []
consumes_none None = tt
consumes_none (Some us) = refl

pub appends_none : (a : Option (List ℕ)) → Appends a a []
appends_none None = tt
appends_none (Some us) = sym (append-nil us)

none_of : (ys : List ℕ) → length ys ≡ 0 → ys ≡ []
none_of [] none = refl
none_of (y ∷ ys) none = absurd (omega (arith, none))

-- All of them came, so none are left; and the other way round.
none_left : (xs ys zs : List ℕ) → xs ≡ ys ++ zs → ys ≡ xs → zs ≡ []
none_left xs ys zs parts all =
    let whole : length xs ≡ length ys + length zs = ap length parts ∙ length-append ys zs in
    let same : length ys ≡ length xs = ap length all in
    none_of zs (omega (arith, whole, same))

none_behind : (xs ys : List ℕ) → xs ++ ys ≡ [] → ys ≡ []
none_behind xs ys none =
    let whole : length xs + length ys ≡ 0 = sym (length-append xs ys) ∙ ap length none in
    none_of ys (omega (arith, whole))

-- No more comes of a socket of which all came.
at_end : (a b c : Option (List ℕ)) (xs ys : List ℕ) → Consumes a b xs → IfSome a (λ sent. xs ≡ sent) → Consumes b c ys → IfSome a (λ sent. xs ++ ys ≡ sent)
at_end None b c xs ys p all q = tt
at_end (Some us) None c xs ys p all q = absurd p
at_end (Some us) (Some vs) None xs ys p all q = absurd q
at_end (Some us) (Some vs) (Some ws) xs ys p all q =
    let left : ws ≡ [] = none_behind ys ws (sym q ∙ none_left us xs vs p all) in
    sym (append-nil (xs ++ ys)) ∙ (ap (λ l. (xs ++ ys) ++ l) (sym left) ∙ (append_assoc xs ys ws ∙ (ap (λ l. xs ++ l) (sym q) ∙ sym p)))

-- It is at its end, so all came.
ended_now : (a b c : Option (List ℕ)) (xs ys : List ℕ) → Consumes a b xs → IsAtEnd b → Consumes b c ys → IfSome a (λ sent. xs ++ ys ≡ sent)
ended_now None b c xs ys p end q = tt
ended_now (Some us) None c xs ys p end q = absurd p
ended_now (Some us) (Some vs) None xs ys p end q = absurd q
ended_now (Some us) (Some vs) (Some ws) xs ys p end q =
    let left : ws ≡ [] = none_behind ys ws (sym q ∙ end) in
    sym (append-nil (xs ++ ys)) ∙ (ap (λ l. (xs ++ ys) ++ l) (sym left) ∙ (append_assoc xs ys ws ∙ (ap (λ l. xs ++ l) (sym q) ∙ sym p)))

or_cases : (a b : Bool) → (a || b) ≡ true → (a ≡ true) ⊎ (b ≡ true)
or_cases true b is = inl refl
or_cases false b is = inr is

-- ---- the order of what was put out

in_order : (w t waits waits' put all : List ℕ) → w ++ waits ≡ all → t ++ waits' ≡ waits ++ put → (w ++ t) ++ waits' ≡ all ++ put
in_order w t waits waits' put all first second =
    append_assoc w t waits' ∙ (ap (λ r. w ++ r) second ∙ (sym (append_assoc w waits put) ∙ ap (λ r. r ++ put) first))

-- What is lost stays behind what waits.
lost_behind : (w t waits waits' lost all : List ℕ) → w ++ (waits ++ lost) ≡ all → t ++ waits' ≡ waits ++ [] → (w ++ t) ++ (waits' ++ lost) ≡ all ++ []
lost_behind w t waits waits' lost all first second =
    append_assoc w t (waits' ++ lost)
    ∙ (ap (λ r. w ++ r) (sym (append_assoc t waits' lost) ∙ ap (λ r. r ++ lost) (second ∙ append-nil waits)) ∙ (first ∙ sym (append-nil all)))

lost_more : (w waits lost more all : List ℕ) → w ++ (waits ++ lost) ≡ all → w ++ (waits ++ (lost ++ more)) ≡ all ++ more
lost_more w waits lost more all first =
    ap (λ r. w ++ r) (sym (append_assoc waits lost more)) ∙ (sym (append_assoc w (waits ++ lost) more) ∙ ap (λ r. r ++ more) first)

module _ {S : Type 0} (left held : S → Option (List ℕ)) where
  -- ---- one socket

  -- Nothing passed yet.
  pub passed_none : (token : ℕ) (side : Side S) → IsBegun token side → Passed left held nothing [] side side
  passed_none token side is = record {
    came = consumes_none (left side.socket);
    ended = is.unread;
    all_came = λ no. absurd (let never : false ≡ true = no in cc);
    written = [];
    are_written = appends_none (held side.socket);
    in_order = ap (λ way. way.waiting ++ []) is.nothing;
    taken = (let none : side.out.untold ≡ 0 = ap (λ way. way.untold) is.nothing in omega (arith, none));
  }

  -- What came, what was put out and taken, where nothing is lost.
  pub passed_on : (told : Told) (begun old new : Side S) (came put : List ℕ) (ended : Bool) (took : ℕ) → Passed left held told [] begun old
      → Goes left held (record { came = Some came; ended = ended; put = put; took = took }) old new
      → Passed left held (with_more told (record { came = came; ended = ended; put = put; took = took })) [] begun new
  passed_on told begun old new came put ended took p goes =
      let lengths : length (p.written ++ goes.passes.taken) ≡ length p.written + length goes.passes.taken = length-append p.written goes.passes.taken in
      record {
        came = consumes_twice (left begun.socket) (left old.socket) (left new.socket) told.came came p.came goes.reads;
        ended = goes.ends ∙ ap (λ b. b || ended) p.ended;
        all_came = λ is. elim (or_cases told.ended ended is) [
          | inl before ↦ at_end (left begun.socket) (left old.socket) (left new.socket) told.came came p.came (p.all_came before) goes.reads
          | inr now ↦ ended_now (left begun.socket) (left old.socket) (left new.socket) told.came came p.came (goes.at_end now).1 goes.reads
        ];
        written = p.written ++ goes.passes.taken;
        are_written = appends_twice (held begun.socket) (held old.socket) (held new.socket) p.written goes.passes.taken p.are_written goes.passes.are_written;
        in_order = ap (λ r. (p.written ++ goes.passes.taken) ++ r) (append-nil new.out.waiting)
            ∙ in_order p.written goes.passes.taken old.out.waiting new.out.waiting put told.put (ap (λ r. p.written ++ r) (sym (append-nil old.out.waiting)) ∙ p.in_order) goes.passes.in_order;
        taken = omega (arith, lengths, p.taken, goes.passes.at_most);
      }

  -- What came and was taken, where octets may be lost.
  pub passed_quiet : (told : Told) (lost : List ℕ) (begun old new : Side S) (came : List ℕ) (ended : Bool) (took : ℕ) → Passed left held told lost begun old
      → Goes left held (record { came = Some came; ended = ended; put = []; took = took }) old new
      → Passed left held (with_more told (record { came = came; ended = ended; put = []; took = took })) lost begun new
  passed_quiet told lost begun old new came ended took p goes =
      let lengths : length (p.written ++ goes.passes.taken) ≡ length p.written + length goes.passes.taken = length-append p.written goes.passes.taken in
      record {
        came = consumes_twice (left begun.socket) (left old.socket) (left new.socket) told.came came p.came goes.reads;
        ended = goes.ends ∙ ap (λ b. b || ended) p.ended;
        all_came = λ is. elim (or_cases told.ended ended is) [
          | inl before ↦ at_end (left begun.socket) (left old.socket) (left new.socket) told.came came p.came (p.all_came before) goes.reads
          | inr now ↦ ended_now (left begun.socket) (left old.socket) (left new.socket) told.came came p.came (goes.at_end now).1 goes.reads
        ];
        written = p.written ++ goes.passes.taken;
        are_written = appends_twice (held begun.socket) (held old.socket) (held new.socket) p.written goes.passes.taken p.are_written goes.passes.are_written;
        in_order = lost_behind p.written goes.passes.taken old.out.waiting new.out.waiting lost told.put p.in_order goes.passes.in_order;
        taken = omega (arith, lengths, p.taken, goes.passes.at_most);
      }

  same_came : (told : Told) (octets : List ℕ) (a b : Option (List ℕ)) → Consumes a b told.came → Consumes a b (told.came ++ [])
  same_came told octets a b came = subst (Consumes a b) (sym (append-nil told.came)) came

  all_came_still : (told : Told) (a : Option (List ℕ)) → IfSome a (λ sent. told.came ≡ sent) → IfSome a (λ sent. told.came ++ [] ≡ sent)
  all_came_still told None all = tt
  all_came_still told (Some us) all = append-nil told.came ∙ all

  or_false : (b : Bool) → (b || false) ≡ b
  or_false true = refl
  or_false false = refl

  -- All that is put out is lost.
  pub passed_lost : (told : Told) (lost octets : List ℕ) (begun now : Side S) → Passed left held told lost begun now
      → Passed left held (with_more told (record nothing { put = octets })) (lost ++ octets) begun now
  passed_lost told lost octets begun now p = record {
    came = same_came told octets (left begun.socket) (left now.socket) p.came;
    ended = p.ended ∙ sym (or_false told.ended);
    all_came = λ is. all_came_still told (left begun.socket) (p.all_came (sym (or_false told.ended) ∙ is));
    written = p.written;
    are_written = p.are_written;
    in_order = lost_more p.written now.out.waiting lost octets told.put p.in_order;
    taken = omega (arith, p.taken);
  }

  -- A front of it is put out.
  pub passed_front : (told : Told) (octets : List ℕ) (begun old new : Side S) → Passed left held told [] begun old → GoesFront left held octets old new
      → (lost : List ℕ) × Passed left held (with_more told (record nothing { put = octets })) lost begun new
  passed_front told octets begun old new p goes =
      let lengths : length (p.written ++ goes.passes.taken) ≡ length p.written + length goes.passes.taken = length-append p.written goes.passes.taken in (
        goes.passes.lost,
        record {
          came = same_came told octets (left begun.socket) (left new.socket) (subst (λ x. Consumes (left begun.socket) x told.came) (sym goes.reads) p.came);
          ended = goes.ends ∙ (p.ended ∙ sym (or_false told.ended));
          all_came = λ is. all_came_still told (left begun.socket) (p.all_came (sym (or_false told.ended) ∙ is));
          written = p.written ++ goes.passes.taken;
          are_written = appends_twice (held begun.socket) (held old.socket) (held new.socket) p.written goes.passes.taken p.are_written goes.passes.are_written;
          in_order = in_order p.written goes.passes.taken old.out.waiting (new.out.waiting ++ goes.passes.lost) octets told.put (ap (λ r. p.written ++ r) (sym (append-nil old.out.waiting)) ∙ p.in_order) goes.passes.in_order;
          taken = omega (arith, lengths, p.taken, goes.passes.at_most);
        },
      )

  -- ---- the socket of a connection, if it has one

  pub to_quiet : (told : Told) (lost : List ℕ) (begun old new : Option (Side S)) (came : List ℕ) (ended : Bool) (took : ℕ) → PassedTo left held told lost begun old
      → GoesTo left held (record { came = Some came; ended = ended; put = []; took = took }) old new
      → PassedTo left held (with_more told (record { came = came; ended = ended; put = []; took = took })) lost begun new
  to_quiet told lost None None new came ended took p goes = (
    goes.0,
    ap (λ (t : Told). with_more t (record { came = came; ended = ended; put = []; took = took })) p.1
        ∙ (ap (λ l. with_more (record nothing { put = lost }) (record { came = l; ended = ended; put = []; took = took })) goes.1.0
        ∙ (ap (λ b. with_more (record nothing { put = lost }) (record { came = []; ended = b; put = []; took = took })) goes.1.1
        ∙ (ap (λ n. with_more (record nothing { put = lost }) (record { came = []; ended = false; put = []; took = n })) goes.1.2
        ∙ ap (λ l. record nothing { put = l }) (append-nil lost)))),
  )
  to_quiet told lost None (Some old) new came ended took p goes = absurd (let no : is_some (Some old) ≡ false = ap is_some p.0 in let never : true ≡ false = no in cc)
  to_quiet told lost (Some begun) None new came ended took p goes = absurd p
  to_quiet told lost (Some begun) (Some old) None came ended took p goes = absurd goes
  to_quiet told lost (Some begun) (Some old) (Some new) came ended took p goes = passed_quiet told lost begun old new came ended took p goes

  -- what is lost is so only where that may be
  abbrev pub LosesNone : Option (Side S) → Bool → List ℕ → Type 0
  LosesNone side deaf lost = is_some side ≡ true → deaf ≡ false → lost ≡ []

  pub to_sent : (told : Told) (lost octets : List ℕ) (begun old new : Option (Side S)) (deaf deaf' : Bool) → PassedTo left held told lost begun old → LosesNone old deaf lost
      → GoesFrontTo left held octets old new → GoesTo left held (put_news octets) old new ⊎ (deaf' ≡ true) → (deaf ≡ true → (new ≡ old) × (deaf' ≡ true))
      → (lost' : List ℕ) × PassedTo left held (with_more told (record nothing { put = octets })) lost' begun new × LosesNone new deaf' lost'
  to_sent told lost octets None None new deaf deaf' p none front puts still = (
    lost ++ octets,
    (front, ap (λ (t : Told). with_more t (record nothing { put = octets })) p.1),
    λ is. absurd (let no : is_some new ≡ false = ap is_some front in let never : true ≡ false = sym is ∙ no in cc),
  )
  to_sent told lost octets None (Some old) new deaf deaf' p none front puts still = absurd (let no : is_some (Some old) ≡ false = ap is_some p.0 in let never : true ≡ false = no in cc)
  to_sent told lost octets (Some begun) None new deaf deaf' p none front puts still = absurd p
  to_sent told lost octets (Some begun) (Some old) None deaf deaf' p none front puts still = absurd front
  to_sent told lost octets (Some begun) (Some old) (Some new) true deaf' p none front puts still = (
    lost ++ octets,
    subst (λ side. PassedTo left held (with_more told (record nothing { put = octets })) (lost ++ octets) (Some begun) side) (sym (still refl).0) (passed_lost told lost octets begun old p),
    λ is hears. absurd (let never : true ≡ false = sym (still refl).1 ∙ hears in cc),
  )
  to_sent told lost octets (Some begun) (Some old) (Some new) false deaf' p none front puts still =
      let whole : Passed left held told [] begun old = subst (λ l. Passed left held told l begun old) (none refl refl) p in
      elim puts [
        | inl goes ↦ ([], passed_on told begun old new [] octets false 0 whole goes, λ is hears. refl)
        | inr deaf ↦ (let cut = passed_front told octets begun old new whole front in (cut.0, cut.1, λ is hears. absurd (let never : true ≡ false = sym deaf ∙ hears in cc)))
      ]
