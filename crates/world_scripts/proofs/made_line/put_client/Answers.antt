use Rattle.std.proofs.Common.{◌≡◌, ◌++◌, ℕ, List, OnOk, subst, rules}
use Rattle.world_scripts.specs.Lines.{Start}
use Rattle.world_scripts.specs.Rounds.{client_tuple}
use Rattle.world_scripts.specs.Generated.{line}
use Rattle.world_scripts.proofs.made_line.put_client.Goals as goal

pub returns : goal.returns
unfolding client_tuple
returns c =
    let is : c.as_slice.result.now ≡ client_tuple = search rules in
    subst (λ (tuple : List ℕ). OnOk c.put_start.result (c.put_start.new.out ≡ c.args.out.now ++ line (Start c.args.conv.now c.args.random.now tuple))) is c.put_start.ensures
