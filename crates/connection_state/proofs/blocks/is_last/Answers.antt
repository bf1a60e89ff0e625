use Rattle.std.proofs.Common.{◌≡◌, ◌==◌, ℕ, suc, true, false, not, ◌&&◌, nat_lt, if◌then◌else◌, List, Option, Some, None, refl, sym, ◌∙◌, ap, arith, inl, inr, Bool, length}
use Rattle.std.proofs.lemmas.Bool.{cases_Bool, ne_eqb, eqb-true}
use Rattle.std.specs.Prelude.{is_some, option_map}
use Rattle.model.specs.Errors.{Fault}
use Rattle.model.specs.Errors.Fault.{Stream, Discarded}
use Rattle.model.specs.Limits.{most_streams}
use Rattle.model.specs.Lifetimes.{may_open}
use Rattle.model.specs.ErrorTable.{fault_of, unless_of_stream}
use Rattle.stream_state.specs.Views.{verdict_in}
use Rattle.stream_state.specs.declared.verdicts.Verdict.{Verdict as Answer}
use Rattle.theory_errors.specs.Rows.{Row, ids_of}
use Rattle.streams.specs.Asked as asked
use Rattle.streams.specs.Asked.{AllowsOpening, is_active}
use Rattle.connection_state.specs.declared.answers.FrameError.{FrameError as Told}
use Rattle.connection_state.specs.Judgement.{fault_told}
use Rattle.connection_state.specs.Blocks.{IsOpenOrIdle, opens_last, fault_on}
use Rattle.connection_state.proofs.BlockRows.{wanted_by, active_closed, idle_of}
use Rattle.connection_state.proofs.Kept.{active_found, none_found}
use Rattle.connection_state.proofs.Settling.{not_last, last_fault, last_is}
use Rattle.connection_state.proofs.blocks.is_last.Goals as goal

-- where the state of its stream allows a block
passing : (rows : List Row) (id : ℕ) (a : Answer) → (id == 0) ≡ false → verdict_in a ≡ asked.verdict false rows id 1 → AllowsOpening a rows id → fault_of (asked.verdict false rows id 1) ≡ None → IsOpenOrIdle rows id
passing rows id a of_stream is allows passes =
    wanted_by rows id a of_stream is allows (ap unless_of_stream passes) (λ discarded. let no : None ≡ Some Discarded = sym passes ∙ discarded in cc)

told_some : (o : Option Told) (f : Option Fault) → option_map fault_told o ≡ f → is_some o ≡ true → is_some f ≡ true
told_some (Some x) f is some = ap is_some (sym is)
told_some None f is some = absurd (let no : false ≡ true = some in cc)

told_none : (o : Option Told) (f : Option Fault) → option_map fault_told o ≡ f → is_some o ≡ false → f ≡ None
told_none (Some x) f is none = absurd (let no : true ≡ false = none in cc)
told_none None f is none = sym is

-- one more isn't all, unless all but one are there
few_more : (rows : List Row) (id n : ℕ) → n ≡ length rows → (n ≡ 9999 → ⊥) → opens_last rows id ≡ false
few_more rows id n count apart = elim (cases_Bool (may_open false (ids_of rows) id)) [
  | inl may ↦ last_is rows id n true count may ∙ ap (λ x. nat_lt n most_streams && x) (ne_eqb (suc n) most_streams (λ same. apart (omega (arith, same)))) ∙ none (nat_lt n most_streams)
  | inr closed ↦ last_is rows id n false count closed ∙ both n
]
  where
    none : (x : Bool) → (x && false) ≡ false
    none true = refl
    none false = refl

    both : (n : ℕ) → (nat_lt n most_streams && n == most_streams) ≡ false
    both n = elim (cases_Bool (n == most_streams)) [
      | inl same ↦ ap (λ k. nat_lt k most_streams && k == most_streams) (eqb-true n most_streams same)
      | inr other ↦ ap (λ x. nat_lt n most_streams && x) other ∙ none (nat_lt n most_streams)
    ]

closed_none : (rows : List Row) (id n : ℕ) → n ≡ length rows → may_open false (ids_of rows) id ≡ false → opens_last rows id ≡ false
closed_none rows id n count closed = last_is rows id n false count closed ∙ both n
  where
    none : (x : Bool) → (x && false) ≡ false
    none true = refl
    none false = refl

    both : (n : ℕ) → (nat_lt n most_streams && n == most_streams) ≡ false
    both n = elim (cases_Bool (n == most_streams)) [
      | inl same ↦ ap (λ k. nat_lt k most_streams && k == most_streams) (eqb-true n most_streams same)
      | inr other ↦ ap (λ x. nat_lt n most_streams && x) other ∙ none (nat_lt n most_streams)
    ]

pub returns-clause-wanted : goal.returns-clause-wanted
returns-clause-wanted c = λ is.
    let told : option_map fault_told c.fault_of.result ≡ fault_of (asked.verdict false c.args.streams.now c.args.id 1) = c.fault_of.ensures ∙ ap fault_of c.verdict.ensures.is in
    passing c.args.streams.now c.args.id c.verdict.result c.requires.of_stream c.verdict.ensures.is c.verdict.ensures.allows (told_none c.fault_of.result _ told (sym c.is_some.ensures ∙ c.if-is_some.false))

pub returns-clause-is : goal.returns-clause-is
returns-clause-is c = λ fields ends.
    let rows : List Row = c.args.streams.now in
    let told : option_map fault_told c.fault_of.result ≡ fault_of (asked.verdict false rows c.args.id 1) = c.fault_of.ensures ∙ ap fault_of c.verdict.ensures.is in
    let passes : fault_of (asked.verdict false rows c.args.id 1) ≡ None = told_none c.fault_of.result _ told (sym c.is_some.ensures ∙ c.if-is_some.false) in
    let count : c.count.result ≡ 9999 = let is = c.if-count-ne-ALL_BUT_ONE.false in omega (arith, is) in
    elim (cases_Bool c.is_none.result) [
      | inl is ↦
          let may : may_open false (ids_of rows) c.args.id ≡ true = idle_of rows c.args.id (passing rows c.args.id c.verdict.result c.requires.of_stream c.verdict.ensures.is c.verdict.ensures.allows passes) (none_found rows c.args.id c.find.result (c.is_none.ensures ∙ ap not is) c.find.ensures.none) in
          last_fault rows c.args.id fields ends passes (last_is rows c.args.id c.count.result true c.count.ensures.is may ∙ ap (λ n. nat_lt n most_streams && suc n == most_streams) count)
          ∙ sym (ap (λ x. if x then Some (Stream 11) else fault_on rows c.args.id fields ends) is)
      | inr some ↦
          let active : is_active rows c.args.id ≡ true = active_found _ rows c.args.id c.find.result (c.is_none.ensures ∙ ap not some) c.find.ensures.live in
          not_last rows c.args.id fields ends (closed_none rows c.args.id c.count.result c.count.ensures.is (active_closed false rows c.args.id active))
          ∙ sym (ap (λ x. if x then Some (Stream 11) else fault_on rows c.args.id fields ends) some)
    ]
