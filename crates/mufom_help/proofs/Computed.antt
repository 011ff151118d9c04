-- The laws of the texts are computed, group by group.
use Rattle.std.specs.Prelude.{◌≡◌, true, ◌++◌, ◌&&◌, List, take, drop}
use Rattle.std.proofs.Common.{refl, ap, ◌∙◌}
use Rattle.std.proofs.lemmas.List.Folds.{list_all-append}
use Rattle.mufom_help.specs.Topics.{Topic, commands, records, structure, inputs, texts, listings, linking, locating}
use Rattle.mufom_help.specs.Topics.{content_errors, error_lines, input_errors, lines, link_errors, module_errors, read_errors, errors, topics}
use Rattle.mufom_help.specs.Pages.{are_pages, is_page, fits_a_screen, have_own_names, piece_lengths, are_ended}
use Rattle.mufom_help.specs.declared.commands.TheConstants.{LIST}

joined-pages : (a b : List Topic) → are_pages a ≡ true → are_pages b ≡ true → are_pages (a ++ b) ≡ true
joined-pages a b p q = list_all-append is_page a b ∙ ap (λ first. first && are_pages b) p ∙ q

first-commands-pages : are_pages (take 4 commands) ≡ true
unfolding piece_lengths are_ended
first-commands-pages = refl

image-commands-pages : are_pages (take 2 (drop 4 commands)) ≡ true
unfolding piece_lengths are_ended
image-commands-pages = refl

file-commands-pages : are_pages (take 2 (drop 2 (drop 4 commands))) ≡ true
unfolding piece_lengths are_ended
file-commands-pages = refl

last-commands-pages : are_pages (drop 2 (drop 2 (drop 4 commands))) ≡ true
unfolding piece_lengths are_ended
last-commands-pages = refl

commands-pages : are_pages commands ≡ true
commands-pages =
    joined-pages (take 4 commands) (drop 4 commands) first-commands-pages
    (joined-pages (take 2 (drop 4 commands)) (drop 2 (drop 4 commands)) image-commands-pages
    (joined-pages (take 2 (drop 2 (drop 4 commands))) (drop 2 (drop 2 (drop 4 commands))) file-commands-pages last-commands-pages))

first-records-pages : are_pages (take 7 records) ≡ true
unfolding piece_lengths are_ended
first-records-pages = refl

last-records-pages : are_pages (drop 7 records) ≡ true
unfolding piece_lengths are_ended
last-records-pages = refl

records-pages : are_pages records ≡ true
records-pages = joined-pages (take 7 records) (drop 7 records) first-records-pages last-records-pages

first-structure-pages : are_pages (take 7 structure) ≡ true
unfolding piece_lengths are_ended
first-structure-pages = refl

last-structure-pages : are_pages (drop 7 structure) ≡ true
unfolding piece_lengths are_ended
last-structure-pages = refl

structure-pages : are_pages structure ≡ true
structure-pages = joined-pages (take 7 structure) (drop 7 structure) first-structure-pages last-structure-pages

inputs-pages : are_pages inputs ≡ true
unfolding piece_lengths are_ended
inputs-pages = refl

texts-pages : are_pages texts ≡ true
unfolding piece_lengths are_ended
texts-pages = refl

listings-pages : are_pages listings ≡ true
unfolding piece_lengths are_ended
listings-pages = refl

linking-pages : are_pages linking ≡ true
unfolding piece_lengths are_ended
linking-pages = refl

first-locating-pages : are_pages (take 6 locating) ≡ true
unfolding piece_lengths are_ended
first-locating-pages = refl

last-locating-pages : are_pages (drop 6 locating) ≡ true
unfolding piece_lengths are_ended
last-locating-pages = refl

locating-pages : are_pages locating ≡ true
locating-pages = joined-pages (take 6 locating) (drop 6 locating) first-locating-pages last-locating-pages

link-pages : are_pages link_errors ≡ true
link-pages = joined-pages linking locating linking-pages locating-pages

content-pages : are_pages content_errors ≡ true
content-pages = joined-pages texts listings texts-pages listings-pages

input-pages : are_pages input_errors ≡ true
input-pages = joined-pages inputs content_errors inputs-pages content-pages

module-pages : are_pages module_errors ≡ true
module-pages = joined-pages records structure records-pages structure-pages

read-pages : are_pages read_errors ≡ true
unfolding read_errors
read-pages = joined-pages module_errors input_errors module-pages input-pages

error-pages : are_pages errors ≡ true
unfolding errors
error-pages = joined-pages read_errors link_errors read-pages link-pages

lines-pages : are_pages lines ≡ true
unfolding piece_lengths are_ended
lines-pages = refl

error_line-pages : are_pages error_lines ≡ true
unfolding error_lines
error_line-pages = joined-pages lines errors lines-pages error-pages

pub topic-pages : are_pages topics ≡ true
unfolding topics
topic-pages = joined-pages commands error_lines commands-pages error_line-pages

pub list-fits : fits_a_screen LIST.now ≡ true
unfolding piece_lengths are_ended
list-fits = refl

pub own-names : have_own_names topics ≡ true
unfolding have_own_names topics error_lines errors read_errors
own-names = refl
