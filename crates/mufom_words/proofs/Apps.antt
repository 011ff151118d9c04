-- The command of `clap` for each form is one of which its definitions state all.
use Rattle.std.proofs.Common.{◌≡◌, true, refl}
use Rattle.clap.specs.Faults.{is_simple_and_free}
use Rattle.clap.specs.Simple.{is_simple}
use Rattle.mufom_words.specs.declared.form.Form.{Form}
use Rattle.mufom_words.specs.declared.form.Form.TheVariants as form
use Rattle.mufom_words.specs.Options.{app_for}

pub app_for-simple : (f : Form) → is_simple (app_for f) ≡ true
app_for-simple form.Show = refl
app_for-simple form.Check = refl
app_for-simple form.Link = refl
app_for-simple form.Locate = refl
app_for-simple form.Dump = refl
app_for-simple form.Map = refl
app_for-simple form.Make = refl
app_for-simple form.Addr = refl
app_for-simple form.Bin = refl
app_for-simple form.Txt = refl
app_for-simple form.FromTxt = refl
app_for-simple form.Build = refl

pub app_for-free : (f : Form) → is_simple_and_free (app_for f) ≡ true
app_for-free form.Show = refl
app_for-free form.Check = refl
app_for-free form.Link = refl
app_for-free form.Locate = refl
app_for-free form.Dump = refl
app_for-free form.Map = refl
app_for-free form.Make = refl
app_for-free form.Addr = refl
app_for-free form.Bin = refl
app_for-free form.Txt = refl
app_for-free form.FromTxt = refl
app_for-free form.Build = refl
