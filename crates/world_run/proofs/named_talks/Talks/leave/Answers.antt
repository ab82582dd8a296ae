use Rattle.std.proofs.Common.{map, rules, ap, ◌∙◌}
use Rattle.std.specs.Map.{lookup}
use Rattle.std.specs.Str.{bytes_eq}
use Rattle.std.proofs.lemmas.Map.Made.{map_same_pairs}
use Rattle.world_run.specs.Names.{left_behind}
use Rattle.world_run.proofs.NamedLemmas.{changed_each}
use Rattle.world_run.proofs.named_talks.Talks.leave.Goals as goal

pub returns : goal.returns
returns c = λ other.
    let left = map_same_pairs _ (left_behind c.args.node.now) _ (λ k v b w f t. search rules) c.self.inside.table.entries c.retain.new.self.entries c.retain.ensures.filtered in
    rw (← c.self.view_is) (ap (λ es. lookup (bytes_eq other) (map (λ e. (e.0.items, e.1)) es)) left
    ∙ changed_each (λ key. key.items) (left_behind c.args.node.now) (bytes_eq other) c.self.inside.table.entries)
