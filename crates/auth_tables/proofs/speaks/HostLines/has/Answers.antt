use Rattle.std.proofs.Common.{codes, ap, ◌∙◌}
use Rattle.std.specs.Prelude.{List}
use Rattle.std.specs.List.{list_any, flat_map}
use Rattle.std.specs.Str.{bytes_eq}
use Rattle.attr_tuples.specs.declared.attr.Attr.{Attr}
use Rattle.attr_tuples.specs.Matching.{texts_of}
use Rattle.auth_tables.proofs.SpeakLemmas.{given_lines}
use Rattle.auth_tables.proofs.speaks.HostLines.has.Goals as goal

pub returns : goal.returns
returns c = rw (← c.self.view_is) (
    c.gives_name.ensures
    ∙ (given_lines (codes "uid") (λ given. bytes_eq given c.args.name.now) c.deref.result.now
    ∙ ap (λ (lines : List (List Attr)). list_any (λ given. bytes_eq given c.args.name.now) (flat_map (texts_of (codes "uid")) lines)) c.deref.ensures.value))
