-- What passes through the sockets of connections, from call to call.
use Rattle.std.proofs.Common.{◌≡◌, ◌++◌, ◌∷◌, ◌∙◌, ◌⊎◌, ℕ, List, [], inl, inr, refl, sym, ap, subst}
use Rattle.std.specs.Prelude.{◌||◌, Bool, true, false, All, Option, None, Some, is_some, IfSome, slice_get, ⊤}
use Rattle.std.proofs.lemmas.List.Elements.{All-nil, All-cons, All-head, All-tail}
use Rattle.std.specs.declared.net.socket_addr.SocketAddr.{SocketAddr}
use Rattle.sockets.specs.Sides.{GoesOn, IsBegun, IsNew as IsNewConnection, is_deaf, is_lost}
use Rattle.sockets.specs.Performed.{IsOpenNowhere, IsNumbered, Opens, Changes, Closes, Sends, SendsTo, AllGoOn, OneGoesOn, OneIsDropped}
use Rattle.sockets.specs.Tokens.{token_number}
use Rattle.sockets.specs.declared.side.Side.{Side}
use Rattle.sockets.specs.declared.upstream.Upstream.{Upstream}
use Rattle.theory_sockets.specs.Told.{Told, Connection, nothing, with_more, goes_on}
use Rattle.theory_sockets.specs.Passed.{PassedTo, IsConnection, IsOpened}
use Rattle.theory_sockets.proofs.Telling.{no_more}
use Rattle.theory_sockets.proofs.Passing.{passed_none, to_quiet, to_sent}

-- No two connections have one number.
abbrev pub AreApart : {S : Type 0} → List (Upstream S) → Type 0
AreApart [] = ⊤
AreApart (upstream ∷ upstreams) = IsOpenNowhere upstream.k upstreams × AreApart upstreams

-- A property of each.
abbrev pub Each : {S : Type 0} → (Upstream S → Type 0) → List (Upstream S) → Type 0
Each P [] = ⊤
Each P (upstream ∷ upstreams) = P upstream × Each P upstreams

module _ {S : Type 0} where
  pub each_all : (P : Upstream S → Type 0) (us : List (Upstream S)) → Each P us → All P us
  each_all P [] each = All-nil P
  each_all P (u ∷ us) each = All-cons P u us each.0 (each_all P us each.1)

  -- What holds of each with another number holds of all where none has it.
  pub each_other : (P Q : Upstream S → Type 0) (k : ℕ) (us : List (Upstream S)) → IsOpenNowhere k us → ((u : Upstream S) → (u.k ≡ k → ⊥) → P u → Q u) → Each P us → Each Q us
  each_other P Q k [] none turn each = tt
  each_other P Q k (u ∷ us) none turn each = (
    turn u (All-head (λ (v : Upstream S). v.k ≡ k → ⊥) u us none) each.0,
    each_other P Q k us (All-tail (λ (v : Upstream S). v.k ≡ k → ⊥) u us none) turn each.1,
  )

  pub each_still : (P Q : Upstream S → Type 0) (us : List (Upstream S)) → ((u : Upstream S) → P u → Q u) → Each P us → Each Q us
  each_still P Q [] turn each = tt
  each_still P Q (u ∷ us) turn each = (turn u each.0, each_still P Q us turn each.1)

  nowhere_among : (k : ℕ) (before behind : List (Upstream S)) (u : Upstream S) → IsOpenNowhere k (before ++ u ∷ behind) → u.k ≡ k → ⊥
  nowhere_among k [] behind u none = All-head (λ (v : Upstream S). v.k ≡ k → ⊥) u behind none
  nowhere_among k (v ∷ before) behind u none = nowhere_among k before behind u (All-tail (λ (w : Upstream S). w.k ≡ k → ⊥) v (before ++ u ∷ behind) none)

  -- One of them changed.
  pub each_changed : (P Q : Upstream S → Type 0) (k : ℕ) (before behind : List (Upstream S)) (from to : Upstream S) → from.k ≡ k → AreApart (before ++ from ∷ behind)
      → ((u : Upstream S) → (u.k ≡ k → ⊥) → P u → Q u) → (P from → Q to) → Each P (before ++ from ∷ behind) → Each Q (before ++ to ∷ behind)
  each_changed P Q k [] behind from to is apart turn one each = (one each.0, each_other P Q k behind (subst (λ n. IsOpenNowhere n behind) is apart.0) turn each.1)
  each_changed P Q k (u ∷ before) behind from to is apart turn one each = (
    turn u (λ same. nowhere_among u.k before behind from apart.0 (is ∙ sym same)) each.0,
    each_changed P Q k before behind from to is apart.1 turn one each.1,
  )

  -- One was added.
  pub each_added : (P Q : Upstream S → Type 0) (before behind : List (Upstream S)) (k : ℕ) (new : Upstream S) → IsOpenNowhere k (before ++ behind) → ((u : Upstream S) → (u.k ≡ k → ⊥) → P u → Q u) → Q new
      → Each P (before ++ behind) → Each Q (before ++ new ∷ behind)
  each_added P Q [] behind k new none turn one each = (one, each_other P Q k behind none turn each)
  each_added P Q (u ∷ before) behind k new none turn one each = (
    turn u (All-head (λ (v : Upstream S). v.k ≡ k → ⊥) u (before ++ behind) none) each.0,
    each_added P Q before behind k new (All-tail (λ (v : Upstream S). v.k ≡ k → ⊥) u (before ++ behind) none) turn one each.1,
  )

  -- One was taken away.
  pub each_removed : (P Q : Upstream S → Type 0) (k : ℕ) (before behind : List (Upstream S)) (gone : Upstream S) → gone.k ≡ k → AreApart (before ++ gone ∷ behind)
      → ((u : Upstream S) → (u.k ≡ k → ⊥) → P u → Q u) → Each P (before ++ gone ∷ behind) → Each Q (before ++ behind)
  each_removed P Q k [] behind gone is apart turn each = each_other P Q k behind (subst (λ n. IsOpenNowhere n behind) is apart.0) turn each.1
  each_removed P Q k (u ∷ before) behind gone is apart turn each = (
    turn u (λ same. nowhere_among u.k before behind gone apart.0 (is ∙ sym same)) each.0,
    each_removed P Q k before behind gone is apart.1 turn each.1,
  )

  -- ---- numbers stay apart

  nowhere_same : (k : ℕ) (before behind : List (Upstream S)) (from to : Upstream S) → to.k ≡ from.k → IsOpenNowhere k (before ++ from ∷ behind) → IsOpenNowhere k (before ++ to ∷ behind)
  nowhere_same k [] behind from to same none =
      All-cons (λ (v : Upstream S). v.k ≡ k → ⊥) to behind (λ is. All-head (λ (v : Upstream S). v.k ≡ k → ⊥) from behind none (sym same ∙ is)) (All-tail (λ (v : Upstream S). v.k ≡ k → ⊥) from behind none)
  nowhere_same k (u ∷ before) behind from to same none =
      All-cons (λ (v : Upstream S). v.k ≡ k → ⊥) u (before ++ to ∷ behind) (All-head (λ (v : Upstream S). v.k ≡ k → ⊥) u (before ++ from ∷ behind) none)
      (nowhere_same k before behind from to same (All-tail (λ (v : Upstream S). v.k ≡ k → ⊥) u (before ++ from ∷ behind) none))

  pub apart_same : (before behind : List (Upstream S)) (from to : Upstream S) → to.k ≡ from.k → AreApart (before ++ from ∷ behind) → AreApart (before ++ to ∷ behind)
  apart_same [] behind from to same apart = (subst (λ n. IsOpenNowhere n behind) (sym same) apart.0, apart.1)
  apart_same (u ∷ before) behind from to same apart = (nowhere_same u.k before behind from to same apart.0, apart_same before behind from to same apart.1)

  nowhere_more : (k : ℕ) (before behind : List (Upstream S)) (new : Upstream S) → (new.k ≡ k → ⊥) → IsOpenNowhere k (before ++ behind) → IsOpenNowhere k (before ++ new ∷ behind)
  nowhere_more k [] behind new other none = All-cons (λ (v : Upstream S). v.k ≡ k → ⊥) new behind other none
  nowhere_more k (u ∷ before) behind new other none =
      All-cons (λ (v : Upstream S). v.k ≡ k → ⊥) u (before ++ new ∷ behind) (All-head (λ (v : Upstream S). v.k ≡ k → ⊥) u (before ++ behind) none)
      (nowhere_more k before behind new other (All-tail (λ (v : Upstream S). v.k ≡ k → ⊥) u (before ++ behind) none))

  pub apart_more : (before behind : List (Upstream S)) (new : Upstream S) → IsOpenNowhere new.k (before ++ behind) → AreApart (before ++ behind) → AreApart (before ++ new ∷ behind)
  apart_more [] behind new none apart = (none, apart)
  apart_more (u ∷ before) behind new none apart = (
    nowhere_more u.k before behind new (λ same. All-head (λ (v : Upstream S). v.k ≡ new.k → ⊥) u (before ++ behind) none (sym same)) apart.0,
    apart_more before behind new (All-tail (λ (v : Upstream S). v.k ≡ new.k → ⊥) u (before ++ behind) none) apart.1,
  )

  nowhere_fewer : (k : ℕ) (before behind : List (Upstream S)) (gone : Upstream S) → IsOpenNowhere k (before ++ gone ∷ behind) → IsOpenNowhere k (before ++ behind)
  nowhere_fewer k [] behind gone none = All-tail (λ (v : Upstream S). v.k ≡ k → ⊥) gone behind none
  nowhere_fewer k (u ∷ before) behind gone none =
      All-cons (λ (v : Upstream S). v.k ≡ k → ⊥) u (before ++ behind) (All-head (λ (v : Upstream S). v.k ≡ k → ⊥) u (before ++ gone ∷ behind) none)
      (nowhere_fewer k before behind gone (All-tail (λ (v : Upstream S). v.k ≡ k → ⊥) u (before ++ gone ∷ behind) none))

  pub apart_fewer : (before behind : List (Upstream S)) (gone : Upstream S) → AreApart (before ++ gone ∷ behind) → AreApart (before ++ behind)
  apart_fewer [] behind gone apart = apart.1
  apart_fewer (u ∷ before) behind gone apart = (nowhere_fewer u.k before behind gone apart.0, apart_fewer before behind gone apart.1)

module _ {S : Type 0} (left held : S → Option (List ℕ)) where
  -- ---- one connection

  unheard : (a b : Bool) → (a ≡ true → b ≡ true) → b ≡ false → a ≡ false
  unheard true b stays is = absurd (let never : true ≡ false = sym (stays refl) ∙ is in cc)
  unheard false b stays is = refl

  had_side : (came : List ℕ) (ended : Bool) (took : ℕ) (told : Told) (lost : List ℕ) (begun old new : Option (Side S)) → PassedTo left held told lost begun old
      → PassedTo left held (with_more told (record { came = came; ended = ended; put = []; took = took })) lost begun new → is_some new ≡ true → is_some old ≡ true
  had_side came ended took told lost None old new p q is = absurd (let never : false ≡ true = sym (ap is_some q.0) ∙ is in cc)
  had_side came ended took told lost (Some begun) None new p q is = absurd p
  had_side came ended took told lost (Some begun) (Some old) new p q is = refl

  deaf_same : (old new : Upstream S) → new.side ≡ old.side → new.broken ≡ old.broken → is_deaf new ≡ is_deaf old
  deaf_same old new side broken = ap (λ b. b || is_lost new.side) broken ∙ ap (λ (x : Option (Side S)). old.broken || is_lost x) side

  to_none : (side : Option (Side S)) (token : ℕ) → IfSome side (IsBegun token) → PassedTo left held nothing [] side side
  to_none None token is = (refl, refl)
  to_none (Some side) token is = passed_none left held token side is

  -- What came of it and was taken is told.
  pub connection_on : (addresses : List SocketAddr) (number : ℕ) (before : Option Connection) (old new : Upstream S) (came : List ℕ) (ended : Bool) (took : ℕ)
      → GoesOn left held (record { came = Some came; ended = ended; put = []; took = took }) old new → IsOpened left held addresses number before old
      → IsOpened left held addresses number (goes_on None (record { came = came; ended = ended; put = []; took = took }) before) new
  connection_on addresses number None old new came ended took goes is = absurd is
  connection_on addresses number (Some told) old new came ended took goes is =
      let passed = to_quiet left held told.told is.lost is.begun old.side new.side came ended took is.passed goes.goes in
      record {
        address = goes.address ∙ is.address;
        begun = is.begun;
        is_begun = subst (λ k. IfSome is.begun (IsBegun (token_number number k))) (sym goes.number) is.is_begun;
        lost = is.lost;
        passed = passed;
        none_lost = λ some hears. is.none_lost (had_side came ended took told.told is.lost is.begun old.side new.side is.passed passed some) (unheard (is_deaf old) (is_deaf new) goes.deaf hears);
      }

  -- Octets are put out to it.
  pub connection_sent : (addresses : List SocketAddr) (number : ℕ) (octets : List ℕ) (before : Option Connection) (old new : Upstream S) → Sends left held octets old new → IsOpened left held addresses number before old
      → IsOpened left held addresses number (goes_on None (record nothing { put = octets }) before) new
  connection_sent addresses number octets None old new sends is = absurd is
  connection_sent addresses number octets (Some told) old new sends is =
      let still : is_deaf old ≡ true → (new.side ≡ old.side) × (is_deaf new ≡ true) = λ deaf. ((sends.deaf deaf).0, deaf_same old new (sends.deaf deaf).0 (sends.deaf deaf).1 ∙ deaf) in
      let sent = to_sent left held told.told is.lost octets is.begun old.side new.side (is_deaf old) (is_deaf new) is.passed is.none_lost sends.front.front sends.puts_out still in
      record {
        address = sends.front.address ∙ is.address;
        begun = is.begun;
        is_begun = subst (λ k. IfSome is.begun (IsBegun (token_number number k))) (sym sends.front.number) is.is_begun;
        lost = sent.0;
        passed = sent.1;
        none_lost = sent.2;
      }

  -- It is new.
  pub connection_new : (addresses : List SocketAddr) (number k route : ℕ) (new : Upstream S) → IsNewConnection number k (slice_get addresses route) new
      → IsOpened left held addresses number (Some (record { route = route; told = nothing })) new
  connection_new addresses number k route new is =
      let begun : IfSome new.side (IsBegun (token_number number new.k)) = subst (λ n. IfSome new.side (IsBegun (token_number number n))) (sym is.number) is.begun in
      record {
        address = is.address_is;
        begun = new.side;
        is_begun = begun;
        lost = [];
        passed = to_none new.side (token_number number new.k) begun;
        none_lost = λ some hears. refl;
      }
