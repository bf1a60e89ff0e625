use Rattle.std.proofs.Common.{[], sym, ◌∙◌, ap, subst}
use Rattle.std.specs.Prelude.{option_map}
use Rattle.model.specs.Http2.{HasLength, authority_of, path_of}
use Rattle.model.specs.Setup.{IsFirstMatch}
use Rattle.local_replies.specs.Views.{cause_of}
use Rattle.local_replies.proofs.Heads.{passes, answered, unrouted, forwarded, no_tunnel}
use Rattle.local_replies.proofs.opening.judge_head.Goals as goal

pub returns-in-Some : goal.returns-in-Some
returns-in-Some c = λ setup routes most. (
  passes c.args.fields.now c.args.ended c.in-Ok.ensures.passes,
  record {
    because = answered setup c.args.routes.now c.args.max_body c.args.fields.now routes most c.requires.fits (cause_of c.in-Some.cause) (sym c.in-Some.ensures);
    declares = c.length-declared.ensures ∙ ap (λ head. head.length) c.in-Ok.ensures.ok;
  },
)

pub returns-in_default-find_route : goal.returns-in_default-find_route
returns-in_default-find_route c =
    let none = sym c.cause_without_routes.ensures ∙ ap (option_map cause_of) c.in_default.is in
    let unmatched = rw c.in-Ok.ensures.ok at (rw (c.authority.ensures, c.path.ensures) at c.in_default-find_route.ensures) in
    λ setup routes most. (
      passes c.args.fields.now c.args.ended c.in-Ok.ensures.passes,
      record {
        because = unrouted setup c.args.routes.now c.args.max_body c.args.fields.now routes most c.requires.fits none unmatched;
        declares = c.length-declared.ensures ∙ ap (λ head. head.length) c.in-Ok.ensures.ok;
      },
    )

pub returns : goal.returns
returns c =
    let none = sym c.cause_without_routes.ensures ∙ ap (option_map cause_of) c.in_default.is in
    let first = rw c.in-Ok.ensures.ok at (rw (c.authority.ensures, c.path.ensures) at c.in-Some-find_route.ensures) in
    λ setup routes most. (
      passes c.args.fields.now c.args.ended c.in-Ok.ensures.passes,
      record {
        no_cause = forwarded setup c.args.routes.now c.args.max_body c.args.fields.now routes most c.requires.fits c.in-Some-find_route.route none first;
        parts = c.in-Ok.ensures.ok;
        request = c.in-Ok.ensures.request (no_tunnel c.args.max_body c.args.fields.now none);
        no_body = λ ended. subst (λ head. HasLength head.length []) (sym c.in-Ok.ensures.ok) (c.in-Ok.ensures.kept.1 ended);
        by_route = subst (λ rs. IsFirstMatch rs (authority_of c.args.fields.now) (path_of c.args.fields.now) c.in-Some-find_route.route) (sym routes) first;
      },
    )
