use Rattle.std.proofs.Common.{◌∙◌, List, length, map, take, ap, sym}
use Rattle.std.proofs.lemmas.List.{length-map}
use Rattle.mufom_names.specs.declared.name.Public.{Public}
use Rattle.mufom_names.specs.declared.name.Reference.{Reference}
use Rattle.mufom_module.specs.declared.module.Parts.{Parts}
use Rattle.mufom_explain.specs.declared.mention.Mention.{Mention}
use Rattle.mufom_explain.specs.declared.mention.MentionKind.TheVariants as kinds
use Rattle.mufom_explain.specs.declared.modules.FlatModule.{FlatModule}
use Rattle.mufom_explain.specs.Flat.{parts_of, wanted_names}
use Rattle.mufom_explain.specs.Mentions.{defines_among, mention, mentions_of, refers_among}
use Rattle.mufom_explain.specs.Noting.{told_with}
use Rattle.mufom_explain.proofs.NotingLaws.{fresh-before, fresh-reference, told-module}
use Rattle.mufom_explain.proofs.ToldLaws.{before-count, parts-more}
use Rattle.mufom_explain.proofs.finding.note_module.Goals as goal

pub note_references-requires : goal.note_references-requires
note_references-requires c =
    let k = c.args.position in
    let before = take k (parts_of c.args.flat.now) in
    let names = wanted_names c.args.wanted.now in
    let count = before-count c.args.flat.now k c.requires.inside in
    let first = c.in_ok-note_publics.ensures (mentions_of before) c.requires.before (fresh-before before k kinds.Public count) in
    ap (λ (ls : List (List Mention)). length ls) first
    ∙ length-map names (told_with (mentions_of before) (defines_among c.as_slice.result.now) (mention k kinds.Public))

pub returns : goal.returns
returns c =
    let flat = c.args.flat.now in let k = c.args.position in let f = c.index-flat-position.result in let m = f.parts.now in
    let before = take k (parts_of flat) in
    let names = wanted_names c.args.wanted.now in
    let count = before-count flat k c.requires.inside in
    let public = mention k kinds.Public in let reference = mention k kinds.Reference in
    let told = mentions_of before in
    let first = c.in_ok-note_publics.ensures told c.requires.before (fresh-before before k kinds.Public count)
    ∙ ap (λ (ps : List Public). map (told_with told (defines_among ps) public) names)
    (c.as_slice.ensures ∙ ap (λ (g : FlatModule). g.parts.now.names.publics) (sym c.index-flat-position.is)) in
    let own = told_with told (defines_among m.names.publics) public in
    c.in_ok-note_references.ensures own first (fresh-reference before k (defines_among m.names.publics) count)
    ∙ ap (λ (rs : List Reference). map (told_with own (refers_among rs) reference) names)
    (c.as_slice-2.ensures ∙ ap (λ (g : FlatModule). g.parts.now.names.references) (sym c.index-flat-position.is))
    ∙ told-module before m k count names
    ∙ ap (λ (ps : List Parts). map (mentions_of ps) names) (sym (parts-more flat k f c.requires.inside c.index-flat-position.is))
