use Rattle.std.proofs.Common.{rules, ◌≡◌, ◌∙◌, ap, length, min, take}
use Rattle.std.proofs.lemmas.List.{take_min}
use Rattle.talks.proofs.seek.first_ones.Goals as goal

pub returns-clause-ones : goal.returns-clause-ones
returns-clause-ones c =
    let least : c.min.result ≡ min 1024 (length c.args.templates.now) = search rules in
    ap (λ n. take n c.args.templates.now) least ∙ take_min 1024 c.args.templates.now
