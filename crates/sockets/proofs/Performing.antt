-- Which connections are open, and what they were sent.
use Rattle.std.proofs.Common.{◌≡◌, ◌<◌, ℕ, zero, suc, List, [], ◌∷◌, length, take, drop, set, get_or, Result, Ok, Err, refl, sym, ap, subst, take-append-drop, arith}
use Rattle.std.specs.Prelude.{Bool, OnOk, OnErr, Option}
use Rattle.std.specs.List.{insert, remove}
use Rattle.std.specs.declared.net.socket_addr.SocketAddr.{SocketAddr}
use Rattle.sockets.specs.declared.upstream.Upstream.{Upstream}
use Rattle.sockets.specs.Sides.{IsNew, SendsFront}
use Rattle.sockets.specs.Performed.{IsNumbered, Opens, Changes, Sends}

module _ {S : Type 0} where
  -- A connection was put at a place.
  pub one_more : (Is : Upstream S → Type 0) (us : List (Upstream S)) (i : ℕ) (u : Upstream S) → Is u → Opens Is us (insert us i u)
  one_more Is us i u is = record { before = take i us; behind = drop i us; opened = u; is = is; old_is = sym (take-append-drop i us); new_is = refl }

  -- The one at a place was taken away.
  pub one_fewer : (us : List (Upstream S)) (i k : ℕ) (u : Upstream S) → i < length us → (get_or us i u).k ≡ k → Opens (IsNumbered k) (remove us i) us
  one_fewer [] i k u within is = grind arith
  one_fewer (v ∷ vs) zero k u within is = record { before = []; behind = vs; opened = v; is = is; old_is = refl; new_is = refl }
  one_fewer (v ∷ vs) (suc i) k u within is =
      let below = one_fewer vs i k u (grind arith) is in
      record { before = v ∷ below.before; behind = below.behind; opened = below.opened; is = below.is; old_is = ap (λ us. v ∷ us) below.old_is; new_is = ap (λ us. v ∷ us) below.new_is }

  -- The one at a place changed so.
  pub one_changed : (So : Upstream S → Upstream S → Type 0) (us : List (Upstream S)) (i k : ℕ) (u new : Upstream S) → i < length us → (get_or us i u).k ≡ k → So (get_or us i u) new
      → Changes k So us (set us i new)
  one_changed So [] i k u new within is so = grind arith
  one_changed So (v ∷ vs) zero k u new within is so = record { before = []; behind = vs; from = v; to = new; number = is; so = so; old_is = refl; new_is = refl }
  one_changed So (v ∷ vs) (suc i) k u new within is so =
      let below = one_changed So vs i k u new (grind arith) is so in
      record {
        before = v ∷ below.before;
        behind = below.behind;
        from = below.from;
        to = below.to;
        number = below.number;
        so = below.so;
        old_is = ap (λ us. v ∷ us) below.old_is;
        new_is = ap (λ us. v ∷ us) below.new_is;
      }

  -- Where it is listed says nothing of what it was sent.
  pub listed : (left held : S → Option (List ℕ)) (from mid to : Upstream S) (octets : List ℕ) → Sends left held octets from mid → to ≡ record mid { is_queued = to.is_queued; is_listed = to.is_listed } → Sends left held octets from to
  listed left held from mid to octets sends is =
      subst (Sends left held octets from) (sym is)
      (record { front = record { number = sends.front.number; address = sends.front.address; front = sends.front.front }; puts_out = sends.puts_out; deaf = sends.deaf })

  pub new_listed : (number k : ℕ) (address : Option SocketAddr) (mid new : Upstream S) → IsNew number k address mid → {b d : Bool} → new ≡ record mid { is_queued = b; is_listed = d } → IsNew number k address new
  new_listed number k address mid new is same = subst (IsNew number k address) (sym same) (record { number = is.number; address_is = is.address_is; begun = is.begun; whole = is.whole })

  pub front_listed : (left held : S → Option (List ℕ)) (from mid to : Upstream S) (octets : List ℕ) → SendsFront left held octets from mid → to ≡ record mid { is_queued = to.is_queued; is_listed = to.is_listed } → SendsFront left held octets from to
  front_listed left held from mid to octets sends is = subst (SendsFront left held octets from) (sym is) (record { number = sends.number; address = sends.address; front = sends.front })

-- what holds anyway holds where a call succeeds
pub on_ok : {A B P : Type 0} (r : Result A B) → P → OnOk r P
on_ok (Ok a) p = p
on_ok (Err b) p = tt

-- and where it fails
pub on_err : {A B P : Type 0} (r : Result A B) → P → OnErr r P
on_err (Ok a) p = tt
on_err (Err b) p = p

-- what follows where a call succeeds
pub ok_then : {A B P Q : Type 0} (r : Result A B) → (P → Q) → OnOk r P → OnOk r Q
ok_then (Ok a) f p = f p
ok_then (Err b) f p = tt

-- what holds both where a call succeeds
pub on_both : {A B : Type 0} (P Q : Type 0) (r : Result A B) → OnOk r P → OnOk r Q → OnOk r (P × Q)
on_both P Q (Ok a) p q = (p, q)
on_both P Q (Err b) p q = tt
