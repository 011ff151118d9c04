use Rattle.std.proofs.Common.{◌≡◌, List, Ok, Err, length, take, drop, sym, ap, refl, subst, ◌∙◌, rules, arith}
use Rattle.mufom_module.specs.declared.module.Parts.{Parts}
use Rattle.mufom_words.specs.declared.command.Mark.{Mark}
use Rattle.mufom_words.specs.Sound.{numbers_from}
use Rattle.mufom_words.specs.Tree.{leaves, tree_of}
use Rattle.mufom_meaning.specs.Staging.{AreValid}
use Rattle.mufom_groups.specs.Groups.{StopsWork, files_of}
use Rattle.mufom_groups.specs.Linked.{linked_module}
use Rattle.mufom_groups.proofs.LinkWalk.{valid-take}
use Rattle.mufom_groups.proofs.WholeLink.{files-of-marks, roots-numbered}
use Rattle.mufom_groups.proofs.AllLinked.{all-linked, all-refused, begins-with-link, chosen-there, first-stop, flat-light}
use Rattle.mufom_groups.proofs.linking.link_with_members.Goals as goal

pub split_off-requires : goal.split_off-requires
split_off-requires c =
    let count = c.file_count-roots.ensures
    ∙ ap length (files-of-marks c.args.marks.now (length c.args.modules) c.requires.tree) in
    let size = ap (λ (l : List Parts). length l) c.into_vec-modules.ensures in
    omega (arith, count, size, c.into_vec-modules.result.ok.0, c.requires.tree.within)

pub link_roots-requires-clause-numbered : goal.link_roots-requires-clause-numbered
link_roots-requires-clause-numbered c =
    let count = c.file_count-roots.ensures
    ∙ ap length (files-of-marks c.args.marks.now (length c.args.modules) c.requires.tree) in
    let roots = c.in-Ok.ensures.items ∙ ap (λ (l : List Parts). take c.file_count-roots.result l) c.into_vec-modules.ensures in
    roots-numbered c.args.marks.now c.args.modules c.split_off.new.self.items c.file_count-roots.result c.requires.tree count roots

pub link_roots-requires-clause-valid : goal.link_roots-requires-clause-valid
link_roots-requires-clause-valid c =
    let roots = c.in-Ok.ensures.items ∙ ap (λ (l : List Parts). take c.file_count-roots.result l) c.into_vec-modules.ensures in
    subst AreValid (sym roots) (valid-take c.file_count-roots.result c.args.modules c.requires.valid)

pub returns-in_err-linked-clause-refused : goal.returns-in_err-linked-clause-refused
returns-in_err-linked-clause-refused c =
    let count = c.file_count-roots.ensures
    ∙ ap length (files-of-marks c.args.marks.now (length c.args.modules) c.requires.tree) in
    let roots = c.in-Ok.ensures.items ∙ ap (λ (l : List Parts). take c.file_count-roots.result l) c.into_vec-modules.ensures in
    let refused : StopsWork (linked_module (tree_of c.args.marks.now) c.args.name.now c.args.modules) c.in_err-linked.field-0.0
    = first-stop c.args.marks.now c.args.name.now c.args.modules c.requires.tree c.requires.valid c.file_count-roots.result count c.args.marks.now
    c.split_off.new.self.items refl roots c.in_err-linked.field-0.0 c.in_err-linked.ensures.refused in
    search (rules, refused)

pub link_flat-requires-clause-begins : goal.link_flat-requires-clause-begins
link_flat-requires-clause-begins c = begins-with-link c.args.marks.now c.split_off.new.self.items c.in-Ok.members.items
    c.in_ok-linked.linked.items c.add_members.new.roots.items c.in_ok-linked.ensures.ok c.in_ok-chosen.ensures.ok.has

pub link_flat-requires-clause-light : goal.link_flat-requires-clause-light
link_flat-requires-clause-light c =
    let roots = c.in-Ok.ensures.items ∙ ap (λ (l : List Parts). take c.file_count-roots.result l) c.into_vec-modules.ensures in
    let members = c.in-Ok.ensures.tail ∙ ap (λ (l : List Parts). drop c.file_count-roots.result l) c.into_vec-modules.ensures in
    flat-light c.args.modules c.requires.light c.file_count-roots.result c.args.marks.now c.split_off.new.self.items c.in-Ok.members.items
    c.in_ok-linked.linked.items c.add_members.new.roots.items c.add_members.new.roots.items
    roots members c.in_ok-linked.ensures.ok c.in_ok-chosen.ensures.ok.has refl

pub returns-in_err-module-clause-refused : goal.returns-in_err-module-clause-refused
returns-in_err-module-clause-refused c =
    let count = c.file_count-roots.ensures
    ∙ ap length (files-of-marks c.args.marks.now (length c.args.modules) c.requires.tree) in
    let roots = c.in-Ok.ensures.items ∙ ap (λ (l : List Parts). take c.file_count-roots.result l) c.into_vec-modules.ensures in
    let members = c.in-Ok.ensures.tail ∙ ap (λ (l : List Parts). drop c.file_count-roots.result l) c.into_vec-modules.ensures in
    let refused : StopsWork (linked_module (tree_of c.args.marks.now) c.args.name.now c.args.modules) c.in_err-module.field-0.0 =
    all-refused c.args.marks.now c.args.name.now c.args.modules c.requires.tree c.requires.valid c.file_count-roots.result count c.args.marks.now
    c.split_off.new.self.items c.in-Ok.members.items c.in_ok-linked.linked.items c.add_members.new.roots.items c.add_members.new.roots.items
    refl roots members c.in_ok-linked.ensures.ok c.in_ok-chosen.ensures.ok.has refl (Err c.in_err-module.field-0.0)
    c.in_err-module.ensures.refused in
    search (rules, refused)

pub returns-clause-ok : goal.returns-clause-ok
returns-clause-ok c =
    let count = c.file_count-roots.ensures
    ∙ ap length (files-of-marks c.args.marks.now (length c.args.modules) c.requires.tree) in
    let roots = c.in-Ok.ensures.items ∙ ap (λ (l : List Parts). take c.file_count-roots.result l) c.into_vec-modules.ensures in
    let members = c.in-Ok.ensures.tail ∙ ap (λ (l : List Parts). drop c.file_count-roots.result l) c.into_vec-modules.ensures in
    all-linked c.args.marks.now c.args.name.now c.args.modules c.requires.tree c.requires.valid c.file_count-roots.result count c.args.marks.now
    c.split_off.new.self.items c.in-Ok.members.items c.in_ok-linked.linked.items c.add_members.new.roots.items c.add_members.new.roots.items
    refl roots members c.in_ok-linked.ensures.ok c.in_ok-chosen.ensures.ok.has refl
    (Ok c.in_ok-module.«module») c.in_ok-module.ensures.joined c.in_ok-module.ensures.linkable

pub returns-clause-chosen : goal.returns-clause-chosen
returns-clause-chosen c =
    let count = c.file_count-roots.ensures
    ∙ ap length (files-of-marks c.args.marks.now (length c.args.modules) c.requires.tree) in
    let roots = c.in-Ok.ensures.items ∙ ap (λ (l : List Parts). take c.file_count-roots.result l) c.into_vec-modules.ensures in
    let members = c.in-Ok.ensures.tail ∙ ap (λ (l : List Parts). drop c.file_count-roots.result l) c.into_vec-modules.ensures in
    chosen-there c.args.marks.now c.args.name.now c.args.modules c.requires.tree c.requires.valid c.file_count-roots.result count c.args.marks.now
    c.split_off.new.self.items c.in-Ok.members.items c.in_ok-linked.linked.items c.add_members.new.roots.items c.add_members.new.roots.items
    refl roots members c.in_ok-linked.ensures.ok c.in_ok-chosen.ensures.ok.has refl c.in_ok-chosen.chosen c.in_ok-chosen.ensures.ok.same

pub returns-clause-count : goal.returns-clause-count
returns-clause-count c =
    c.file_count-roots.ensures
    ∙ ap length (files-of-marks c.args.marks.now (length c.args.modules) c.requires.tree)
