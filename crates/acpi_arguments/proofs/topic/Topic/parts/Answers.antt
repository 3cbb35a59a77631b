use Rattle.std.proofs.Common.{refl}
use Rattle.acpi_arguments.proofs.topic.Topic.parts.Goals as goal

pub returns-in-Everything : goal.returns-in-Everything
returns-in-Everything c = rw (c.in-Everything.is) refl

pub returns-in-Check : goal.returns-in-Check
returns-in-Check c = rw (c.in-Check.is) refl

pub returns-in-Lint : goal.returns-in-Lint
returns-in-Lint c = rw (c.in-Lint.is) refl

pub returns-in-Confirm : goal.returns-in-Confirm
returns-in-Confirm c = rw (c.in-Confirm.is) refl

pub returns-in-Rebuild : goal.returns-in-Rebuild
returns-in-Rebuild c = rw (c.in-Rebuild.is) refl
