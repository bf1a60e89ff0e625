-- Octets that wait for sockets, from call to call.
use Rattle.std.proofs.Common.{◌≡◌, ◌<◌, ◌+◌, ◌-◌, ◌++◌, ◌∙◌, ℕ, List, [], ◌∷◌, length, Result, Ok, Err, refl, sym, ap, subst, append_assoc, append-nil, length-append, arith}
use Rattle.std.proofs.lemmas.Grind.{common_steps}
use Rattle.std.specs.Prelude.{Bool, true, false, if◌then◌else◌, nat_lt, Option, None, Some, OnOk}
use Rattle.std.specs.Io.KnownBytes.{Appends, Consumes, Keeps, IsAtEnd}
use Rattle.socket_io.specs.Transfers as transfers
use Rattle.socket_io.specs.Transfers.{Way, told, told_count, Loses, IsSocketFault, IsMemoryFault}
use Rattle.socket_io.specs.declared.outgoing.PutFault.{PutFault}
use Rattle.socket_io.specs.declared.outgoing.PutFault.TheVariants.{Socket, Memory}
use Rattle.sockets.specs.Putting.{Passes, PassesFront}
use Rattle.sockets.specs.Sides.{Reads}

pub appends_twice : (a b c : Option (List ℕ)) (xs ys : List ℕ) → Appends a b xs → Appends b c ys → Appends a c (xs ++ ys)
appends_twice None b c xs ys p q = tt
appends_twice (Some us) None c xs ys p q = absurd p
appends_twice (Some us) (Some vs) None xs ys p q = absurd q
appends_twice (Some us) (Some vs) (Some ws) xs ys p q = q ∙ ap (λ zs. zs ++ ys) p ∙ append_assoc us xs ys

pub appends_nothing : (a : Option (List ℕ)) → Appends a a []
appends_nothing None = tt
appends_nothing (Some us) = sym (append-nil us)

keeps_appends : (a b : Option (List ℕ)) → Keeps a b → Appends a b []
keeps_appends None b keeps = tt
keeps_appends (Some us) None keeps = absurd keeps
keeps_appends (Some us) (Some vs) keeps = keeps ∙ sym (append-nil us)

pub reads_nothing : (a : Option (List ℕ)) → Consumes a a []
reads_nothing None = tt
reads_nothing (Some us) = refl

pub keeps_reads : (a b : Option (List ℕ)) → Keeps a b → Consumes a b []
keeps_reads None b keeps = tt
keeps_reads (Some us) None keeps = absurd keeps
keeps_reads (Some us) (Some vs) keeps = sym keeps

-- Nothing was read, and then this.
pub reads_after : (a b c : Option (List ℕ)) (came : Option (List ℕ)) → Consumes a b [] → Reads b c came → Reads a c came
reads_after a b c None first second = tt
reads_after None b c (Some came) first second = tt
reads_after (Some us) None c (Some came) first second = absurd first
reads_after (Some us) (Some vs) None (Some came) first second = absurd second
reads_after (Some us) (Some vs) (Some ws) (Some came) first second = first ∙ second

-- It was at its end before too.
pub end_before : (a b : Option (List ℕ)) → Consumes a b [] → IsAtEnd b → IsAtEnd a
end_before None b first end = tt
end_before (Some us) None first end = absurd first
end_before (Some us) (Some vs) first end = first ∙ end

-- Nothing passed.
pub passes_still : (had has : Option (List ℕ)) (old new : Way) → has ≡ had → new.waiting ≡ old.waiting → new.untold ≡ old.untold → Passes had has [] 0 old new
passes_still had has old new same waits counts =
    record {
      taken = [];
      in_order = waits ∙ sym (append-nil old.waiting);
      are_written = subst (λ xs. Appends had xs []) (sym same) (appends_nothing had);
      at_most = omega (arith, counts);
      at_least = grind (arith, counts);
    }

-- A front was taken, and then another.
pub passes_twice : (a b c : Option (List ℕ)) (count : ℕ) (old mid new : Way) → Passes a b [] 0 old mid → Passes b c [] count mid new → Passes a c [] count old new
passes_twice a b c count old mid new first second =
    let lengths : length (first.taken ++ second.taken) ≡ length first.taken + length second.taken = length-append first.taken second.taken in
    let here = first.at_least in
    let there = second.at_least in
    record {
      taken = first.taken ++ second.taken;
      in_order = append_assoc first.taken second.taken new.waiting ∙ ap (λ rest. first.taken ++ rest) (second.in_order ∙ append-nil mid.waiting) ∙ first.in_order;
      are_written = appends_twice a b c first.taken second.taken first.are_written second.are_written;
      at_most = omega (arith, lengths, first.at_most, second.at_most);
      at_least = grind (arith, common_steps);
    }

-- What a write does is told so.
pub passed : (had has : Option (List ℕ)) (octets : List ℕ) (old new : Way) → transfers.Passes had has old octets new → Passes had has octets 0 old new
passed had has octets old new passes =
    let counted = passes.counted in
    record {
      taken = passes.written;
      in_order = passes.in_order;
      are_written = passes.are_written;
      at_most = grind (arith, common_steps);
      at_least = grind (arith, common_steps);
    }

-- Octets wait that weren't written as yet.
pub gathered : (has : Option (List ℕ)) (octets : List ℕ) (old new : Way) → new ≡ record old { waiting = old.waiting ++ octets; sent = new.sent } → Passes has has octets 0 old new
gathered has octets old new is =
    let counts : new.untold ≡ old.untold = ap (λ (way : Way). way.untold) is in
    record {
      taken = [];
      in_order = ap (λ (way : Way). way.waiting) is;
      are_written = appends_nothing has;
      at_most = omega (arith, counts);
      at_least = grind (arith, counts);
    }

-- Of what is put out all is a front.
pub passes_front : (had has : Option (List ℕ)) (octets : List ℕ) (old new : Way) → Passes had has octets 0 old new → PassesFront had has octets old new
passes_front had has octets old new passes =
    let most = passes.at_most in
    record {
      taken = passes.taken;
      lost = [];
      in_order = ap (λ rest. passes.taken ++ rest) (append-nil new.waiting) ∙ passes.in_order;
      are_written = passes.are_written;
      at_most = omega (arith, most);
    }

-- The socket and what waits for it stayed then.
pub passes_same : (had has has' : Option (List ℕ)) (octets : List ℕ) (old mid new : Way) → has' ≡ has → new ≡ mid → Passes had has octets 0 old mid → Passes had has' octets 0 old new
passes_same had has has' octets old mid new same is passes = subst (λ h. Passes had h octets 0 old new) (sym same) (subst (Passes had has octets 0 old) (sym is) passes)

-- Nothing was put out.
pub no_front : (had has : Option (List ℕ)) (octets : List ℕ) (old new : Way) → Appends had has [] → new.waiting ≡ old.waiting → new.untold ≡ old.untold → PassesFront had has octets old new
no_front had has octets old new appends waits counts =
    record { taken = []; lost = octets; in_order = ap (λ rest. rest ++ octets) waits; are_written = appends; at_most = omega (arith, counts) }

pub still_front : (has : Option (List ℕ)) (octets : List ℕ) (old new : Way) → new ≡ record old { sent = new.sent } → PassesFront has has octets old new
still_front has octets old new is = no_front has has octets old new (appends_nothing has) (ap (λ (way : Way). way.waiting) is) (ap (λ (way : Way). way.untold) is)

parted : (waits waits' written lost octets : List ℕ) → written ++ lost ≡ octets → (0 < length waits → written ≡ []) → waits' ≡ waits → written ++ (waits' ++ lost) ≡ waits ++ octets
parted [] waits' written lost octets all behind same = ap (λ ws. written ++ (ws ++ lost)) same ∙ all
parted (w ∷ ws) waits' written lost octets all behind same =
    let none : written ≡ [] = behind (omega arith) in
    let lost_all : lost ≡ octets = sym (ap (λ front. front ++ lost) none) ∙ all in
    ap (λ front. front ++ (waits' ++ lost)) none ∙ ap (λ rest. rest ++ lost) same ∙ ap (λ rest. (w ∷ ws) ++ rest) lost_all

-- However putting out ended, a front was put out at most.
pub put_front : {A : Type 0} (r : Result A PutFault) (had has : Option (List ℕ)) (octets : List ℕ) (old new : Way)
    → OnOk r (transfers.Passes had has old octets new) → (IsSocketFault r → Keeps had has × (new ≡ old)) → (IsMemoryFault r → Loses had has old octets new) → PassesFront had has octets old new
put_front (Ok a) had has octets old new passes failed refused = passes_front had has octets old new (passed had has octets old new passes)
put_front (Err (Socket error)) had has octets old new passes failed refused =
    let still = failed tt in
    no_front had has octets old new (keeps_appends had has still.0) (ap (λ (way : Way). way.waiting) still.1) (ap (λ (way : Way). way.untold) still.1)
put_front (Err Memory) had has octets old new passes failed refused =
    let loses = refused tt in
    let counted = loses.counted in
    record {
      taken = loses.written;
      lost = loses.lost;
      in_order = parted old.waiting new.waiting loses.written loses.lost octets loses.parted loses.behind loses.waits;
      are_written = loses.are_written;
      at_most = grind (arith, common_steps);
    }
