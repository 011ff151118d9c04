-- An output that is complete up to the calls that print or write it.
use Rattle.std.specs.Prelude.{◌≡◌, flat_map, length}
use Rattle.mufom_map.specs.MapText.{view_text}
use Rattle.mufom_module.specs.Written.{written}
use Rattle.mufom_origins.specs.Words.{all_files}
use Rattle.mufom_text.specs.Image.{image_text}
use Rattle.mufom_text.specs.Show.{text_of}
use Rattle.mufom_titxt.specs.Written.{txt_text}
use Rattle.mufom_write.specs.Range.{range_image}
use Rattle.mufom_write.specs.Raw.{raw_image}
use Rattle.mufom_prepare.specs.declared.ready.Ready.{Ready}
use Rattle.mufom_prepare.specs.declared.ready.Ready.TheVariants as ready
use Rattle.mufom_prepare.specs.Locations.{AreLocated, shown_of}
use Rattle.mufom_works.specs.Works.{Output, made, printed}

-- the output
abbrev pub ready_output : Ready → Output
ready_output (ready.Lines bytes) = printed bytes.items
ready_output (ready.Help text) = printed text.now
ready_output (ready.Listing ms form) = printed (flat_map (text_of form) ms)
ready_output (ready.File out «module») = made out.now (written «module»)
ready_output (ready.Raw out fill r) = made out.now (raw_image fill r.runs)
ready_output (ready.Range out fill from count r) = made out.now (range_image fill from count r.runs)
ready_output (ready.TiTxt out r) = made out.now (txt_text r.runs)
ready_output (ready.Image r) = printed (image_text r)
ready_output (ready.Map names at m) = printed (view_text (all_files names) at (shown_of m))

-- there is one module whose text is printed, and a map is of a module that is located
abbrev pub IsReady : Ready → Type 0
IsReady (ready.Listing ms form) = length ms ≡ 1
IsReady (ready.Map names at m) = AreLocated m
IsReady _ = Unit {0}

-- the output is a text of the program
abbrev pub IsHelp : Ready → Type 0
IsHelp (ready.Help text) = Unit {0}
IsHelp _ = ⊥
