use Rattle.std.proofs.Common.{rules, ◌≡◌, ◌≤◌, length, true, false, is_some, sym, ap, ◌∙◌}
use Rattle.auth_program.specs.Words.{is_among, is_value}
use Rattle.agent_serving.specs.Words.{are_options, place_of, serve_options}
use Rattle.agent_serving.proofs.WordLemmas.{once, twice}
use Rattle.agent_serving.proofs.words.are_options.Goals as goal

pub returns-then-is_some : goal.returns-then-is_some
returns-then-is_some c =
    let name : is_among serve_options c.in-Some.name.now ≡ true = search rules in
    let value : is_value c.in-Some.value.now ≡ true = search rules in
    let again : is_some (place_of c.in-Some.name.now 0 c.in-Some.rest.now) ≡ true = search rules in
    sym (twice _ _ _ _ name value again) ∙ (ap are_options (sym c.in-Some.ensures.some) ∙ c.loop-name.invariant.same)

pub loop-name-preserved : goal.loop-name-preserved
loop-name-preserved c =
    let name : is_among serve_options c.in-Some.name.now ≡ true = search rules in
    let value : is_value c.in-Some.value.now ≡ true = search rules in
    let again : is_some (place_of c.in-Some.name.now 0 c.in-Some.rest.now) ≡ false = search rules in
    let shorter : length c.in-Some.rest.now ≤ length c.args.words.now = search rules in
    record {
      same = sym (once _ _ _ _ name value again) ∙ (ap are_options (sym c.in-Some.ensures.some) ∙ c.loop-name.invariant.same);
      few = shorter;
    }
