-- Lines of scripts, read one after the other.
use Rattle.std.proofs.Common.{◌≡◌, ◌≢◌, ℕ, ◌+◌, ◌<◌, ◌==◌, List, [], ◌∷◌, ◌++◌, length, All, refl, sym, ap, ◌∙◌, subst, arith, append_assoc, append-nil, length-append}
use Rattle.std.specs.List.{slice_split}
use Rattle.std.proofs.lemmas.List.Splits.{slice_split_none, slice_split_at, length-slice_split}
use Rattle.model.specs.Logs.{Event}
use Rattle.replay.specs.Scripts.{lines_of, without_empty_last, Says, AllSay, SaysNothing, IsFirstFault}
use Rattle.replay.specs.Faults.{IsSeparated, IsFirstLine}
use Rattle.replay.proofs.LinesLemmas.{lacks}

some_element : (parts : List (List ℕ)) → 0 < length parts → (first : List ℕ) × (more : List (List ℕ)) × (parts ≡ first ∷ more)
some_element [] some = absurd (omega arith)
some_element (first ∷ more) some = (first, more, refl)

keeps_first : (line next : List ℕ) (more : List (List ℕ)) → without_empty_last (line ∷ next ∷ more) ≡ line ∷ without_empty_last (next ∷ more)
keeps_first [] next more = refl
keeps_first (octet ∷ octets) next more = refl

-- a line with its end, and what is behind it
lines_cons : (line after : List ℕ) → All (λ octet. octet ≢ 10) line → lines_of (line ++ 10 ∷ after) ≡ line ∷ lines_of after
lines_cons line after without =
    let parts = slice_split (λ octet. octet == 10) after in
    let some = some_element parts (omega (arith, length-slice_split (λ octet. octet == 10) after)) in
    let cut : slice_split (λ octet. octet == 10) (line ++ 10 ∷ after) ≡ line ∷ parts = slice_split_at (λ octet. octet == 10) line 10 after (lacks 10 line without) refl in
    ap without_empty_last cut ∙ ap (λ p. without_empty_last (line ∷ p)) some.2 ∙ keeps_first line some.0 some.1 ∙ ap (λ p. line ∷ without_empty_last p) (sym some.2)

-- a line without an end
last_line : (text : List ℕ) → text ≢ [] → All (λ octet. octet ≢ 10) text → lines_of text ≡ text ∷ []
last_line [] some without = absurd (some refl)
last_line (octet ∷ octets) some without =
    ap without_empty_last (slice_split_none (λ other. other == 10) (octet ∷ octets) (lacks 10 (octet ∷ octets) without))

pub ended_line : (text line after : List ℕ) → IsSeparated 10 text line after → IsFirstLine text line after
ended_line text line after cut = record {
  lines = ap lines_of cut.parts ∙ lines_cons line after cut.without;
  shorter = omega (arith, ap length cut.parts, length-append line (10 ∷ after));
}

pub unended_line : (text : List ℕ) → 0 < length text → All (λ octet. octet ≢ 10) text → IsFirstLine text text []
unended_line text some without = record {
  lines = last_line text (λ e. omega (arith, ap length e)) without;
  shorter = some;
}

-- the lines that were read say the events, and the lines of the rest follow them
pub record SoFar (text rest : List ℕ) (events : List Event) : Type 0 where
  pub before : List (List ℕ)
  pub parts : lines_of text ≡ before ++ lines_of rest
  pub say : AllSay before events

pub nothing_so_far : (text : List ℕ) → SoFar text text []
nothing_so_far text = record { before = []; parts = refl; say = tt }

all_say_push : (lines : List (List ℕ)) (events : List Event) (line : List ℕ) (event : Event) → AllSay lines events → Says line event → AllSay (lines ++ line ∷ []) (events ++ event ∷ [])
all_say_push [] [] line event say says = (says, tt)
all_say_push [] (e ∷ es) line event say says = absurd say
all_say_push (l ∷ ls) [] line event say says = absurd say
all_say_push (l ∷ ls) (e ∷ es) line event say says = (say.0, all_say_push ls es line event say.1 says)

all_say_length : (lines : List (List ℕ)) (events : List Event) → AllSay lines events → length lines ≡ length events
all_say_length [] [] say = refl
all_say_length [] (e ∷ es) say = absurd say
all_say_length (l ∷ ls) [] say = absurd say
all_say_length (l ∷ ls) (e ∷ es) say = omega (arith, all_say_length ls es say.1)

module _ (text rest line after : List ℕ) (events : List Event) (so_far : SoFar text rest events) (first : IsFirstLine rest line after) where
  next_parts : lines_of text ≡ so_far.before ++ line ∷ lines_of after
  next_parts = so_far.parts ∙ ap (λ lines. so_far.before ++ lines) first.lines

  pub one_more : (event : Event) → Says line event → SoFar text after (events ++ event ∷ [])
  one_more event says = record {
    before = so_far.before ++ line ∷ [];
    parts = next_parts ∙ sym (append_assoc so_far.before (line ∷ []) (lines_of after));
    say = all_say_push so_far.before events line event so_far.say says;
  }

  pub fault_here : SaysNothing line → IsFirstFault (lines_of text) (length events + 1)
  fault_here nothing = record {
    before = so_far.before;
    events = events;
    fault = line;
    after = lines_of after;
    parts = next_parts;
    say = so_far.say;
    says_nothing = nothing;
    place_is = ap (λ n. n + 1) (sym (all_say_length so_far.before events so_far.say));
  }

pub all_read : (text : List ℕ) (events : List Event) → SoFar text [] events → AllSay (lines_of text) events
all_read text events so_far = subst (λ lines. AllSay lines events) (sym (so_far.parts ∙ append-nil so_far.before)) so_far.say
