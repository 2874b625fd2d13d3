use Rattle.std.proofs.Common.{ℕ, List, Bor, sym, ◌∙◌, ap}
use Rattle.std.specs.Option.{option_map}
use Rattle.apd_conf.proofs.SettingLemmas.{no_setting, split_setting}
use Rattle.apd_conf.proofs.conf_file.setting_of.Goals as goal

pub returns-in_err-place : goal.returns-in_err-place
returns-in_err-place c = ap (option_map (λ (setting : Bor (List ℕ) × Bor (List ℕ)). (setting.0.now, setting.1.now))) c.from_residual.ensures ∙ sym (no_setting c.args.line.now c.in_err-place.ensures)

pub returns : goal.returns
returns c = sym (split_setting c.args.line.now c.in_ok-place.place c.in_ok-place.ensures)
