-- Before anything came: a session in which nothing is kept yet stands for the first state, with the gateway's settings owed.
use Rattle.std.proofs.Common.{◌≡◌, ℕ, List, [], ◌∷◌, Option, Some, None, refl, sym, ◌∙◌, ap, subst}
use Rattle.model.specs.Setup.{Setup}
use Rattle.model.specs.Tables.{first_table}
use Rattle.theory_errors.specs.Book.{first_ledger}
use Rattle.theory_responses.specs.State as theory_responses
use Rattle.theory_requests.specs.State as theory_requests
use Rattle.theory_requests.specs.Lines.{find}
use Rattle.theory_header_tables.specs.State.{inserts}
use Rattle.header_blocks.specs.Encoding.{first_encoding}
use Rattle.connection_state.specs.Inbound.{book_of}
use Rattle.upstream_connections.specs.Kept.{State, nothing, with_due}
use Rattle.upstream_connections.specs.Connections.{Connection, number_of}
use Rattle.window_credit.specs.Sides.{Side}
use Rattle.window_credit.specs.Sides.{find as find_side}
use Rattle.window_credit.specs.Standing.{StandFor, AreApart, ids_of}
use Rattle.theory.specs.State as theory
use Rattle.theory.specs.Rule.{rooms_in}
use Rattle.theory.specs.Steps.{told_by}
use Rattle.refinement.specs.View.{View, first_pending, newest_in, Leads}

module _ (setup : Setup) (kept : View) (book : book_of (record { given = []; untaken = 0 }) kept.inbound ≡ (first_ledger setup).book) (offers : kept.offers ≡ theory_responses.start) (upstreams : kept.upstreams ≡ nothing) (table : kept.inbound.table ≡ first_table) (encoding : kept.encoding ≡ first_encoding (inserts setup.policy)) (marks : kept.marks ≡ []) (untaken : kept.untaken ≡ 0) where
  none_open : (k : ℕ) (c : Connection) → find number_of k kept.upstreams.live ≡ Some c → ⊥
  none_open k c found = let no : ◌≡◌ {A = Option Connection} None (Some c) = sym (ap (λ (u : State). find number_of k u.live) upstreams) ∙ found in cc

  -- No move led there.
  pub first_leads : Leads setup [] kept (first_pending setup.more_room) (theory.state_of setup [])
  first_leads = record {
    stands = record { allowed = tt; is = refl; goes_on = refl };
    so = λ known same knows. tt;
    heard = record { so = λ known same knows k c found goes_on. absurd (none_open k c found); none_idle = λ k c found is. absurd (none_open k c found) };
    keeps = record {
      book = sym book ∙ ap (λ n. book_of (record { given = []; untaken = n }) kept.inbound) (sym untaken);
      owed = refl;
      offers = sym offers;
      requests = ap (λ (u : State). with_due u theory_requests.Due.Nothing) (sym upstreams);
      decoding = sym table;
      encoding = sym encoding;
      read = refl;
      credited = record { fresh = refl; shared = refl; own = λ id goes. refl };
      counted = λ k c found. absurd (none_open k c found);
    };
    marked = record {
      stand = none_marked;
      none = λ whole. marks;
      some = λ id side found. let no : ◌≡◌ {A = Option Side} None (Some side) = sym (ap (λ (sides : List Side). find_side id sides) marks) ∙ found in cc;
      all = λ streaming id live none. refl;
    };
    in_effect = tt;
  }
    where
      none_marked : StandFor (newest_in (theory.state_of setup [])) kept.marks (rooms_in (told_by (theory.state_of setup [])) (theory.state_of setup []))
      none_marked = record {
        live = λ id side found. let no : ◌≡◌ {A = Option Side} None (Some side) = sym (ap (λ (sides : List Side). find_side id sides) marks) ∙ found in cc;
        rows = λ id side found. let no : ◌≡◌ {A = Option Side} None (Some side) = sym (ap (λ (sides : List Side). find_side id sides) marks) ∙ found in cc;
        rest = λ id live none. refl;
        apart = subst (λ (sides : List Side). AreApart (ids_of sides)) (sym marks) tt;
      }
