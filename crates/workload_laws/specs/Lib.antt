pub mod MadeScripts
pub mod Forms
pub mod MadeSources
