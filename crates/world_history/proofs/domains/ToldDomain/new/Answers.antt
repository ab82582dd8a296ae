use Rattle.std.proofs.Common.{◌≡◌, ◌∷◌, ◌∙◌, [], ap, true, refl, rules}
use Rattle.std.specs.Str.{is_utf8, chars}
use lib.Utf8.{encode}
use Rattle.wire_base.specs.Texts.{is_text}
use Rattle.world_scripts.specs.Lines.{is_domain}
use Rattle.world_history.proofs.domains.ToldDomain.new.Goals as goal

x_is_domain : is_domain (120 ∷ []) ≡ true
unfolding is_text is_utf8 chars encode
x_is_domain = refl

pub copy_domain-requires : goal.copy_domain-requires
copy_domain-requires c =
    let is : c.as_slice.result.now ≡ 120 ∷ [] = search rules in
    ap is_domain is ∙ x_is_domain
